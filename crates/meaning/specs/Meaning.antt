-- What a script does, part by part.
use Rattle.std.specs.Prelude.{ℕ, zero, suc, ◌+◌, Bool, false, List, [], ◌∷◌, ◌++◌, get_or, replicate, ℤ, pos, negsuc, nat_lt, slice_index, slice_index_or, slice_set, unsigned_abs}
use Rattle.answer.specs.Numbers.{no_place}
use Rattle.answer.specs.declared.Ending.TheVariants.{DivisorZero, IndexOutside, PageFull, NoTurnLeft}
use Rattle.board.specs.Meaning.{Means, has_room}
use Rattle.meaning.specs.Words.{apply, defined, flag, is_zero}
use Rattle.meaning.specs.Tree.{Expr, Args, Stmt, Function, Script}
use Rattle.meaning.specs.Tree
use Rattle.meaning.specs.Steps.{State, with_globals, with_locals, with_reading, Out, fine, ended, ◌then◌, guard, branch, spend, descend, Enter, Flow, falls, returns, replaces, next, restoring}

-- the globals lie end to end from word 0
abbrev pub first_word : List ℕ → ℕ → ℕ
first_word [] g = 0
first_word (n ∷ ns) zero = 0
first_word (n ∷ ns) (suc g) = n + first_word ns g

-- an index within n words
abbrev pub within : ℕ → ℤ → Bool
within n (pos i) = nat_lt i n
within n (negsuc i) = false

-- an index i that the global g has, and the word that it names
abbrev pub inside : List ℕ → ℕ → ℤ → Bool
inside lengths g i = within (slice_index lengths g) i

abbrev pub word : List ℕ → ℕ → ℤ → ℕ
word lengths g i = first_word lengths g + unsigned_abs i

-- the board once it has these readings
abbrev pub showing : Means → List ℤ → Means
showing board rs = record { inputs = board.inputs; readings = rs; page = board.page }

-- the while n from its test on, its test due at most k times
unfoldable pub loop : ℕ → ℕ → (State → Out ℤ) → (State → Out Flow) → State → Out Flow
loop zero n test body s = ended NoTurnLeft n s
loop (suc k) n test body s =
    test s then λ x s₁.
    branch (is_zero x) (fine falls) (λ s₂. body s₂ then next (λ s₃. spend n s₃ then λ _ s₄. loop k n test body s₄)) s₁

module _ (lengths : List ℕ) (board : Means) (enter : Enter) where
  unfoldable mutual
    pub eval : Expr → State → Out ℤ
    eval (Tree.constant n v) s = fine v s
    eval (Tree.local n k) s = fine (slice_index_or s.locals k (pos 0)) s
    eval (Tree.global n g) s = fine (slice_index_or s.globals (first_word lengths g) (pos 0)) s
    eval (Tree.element n g i) s =
        eval i s then λ x s₁.
        guard (inside lengths g x) IndexOutside n s₁ then λ _ s₂.
        fine (slice_index_or s₂.globals (word lengths g x) (pos 0)) s₂
    eval (Tree.set_local n k e) s = eval e s then λ v s₁. fine v (with_locals s₁ (slice_set s₁.locals k v))
    eval (Tree.set_global n g e) s = eval e s then λ v s₁. fine v (with_globals s₁ (slice_set s₁.globals (first_word lengths g) v))
    eval (Tree.set_element n g i e) s =
        eval i s then λ x s₁.
        guard (inside lengths g x) IndexOutside n s₁ then λ _ s₂.
        eval e s₂ then λ v s₃.
        fine v (with_globals s₃ (slice_set s₃.globals (word lengths g x) v))
    eval (Tree.negation n e) s = eval e s then λ v s₁. fine (flag (is_zero v)) s₁
    eval (Tree.print n e) s =
        eval e s then λ v s₁.
        guard (has_room (showing board s₁.readings)) PageFull n s₁ then λ _ s₂.
        fine v (with_reading s₂ v)
    eval (Tree.binary n o e f) s =
        eval e s then λ x s₁.
        eval f s₁ then λ y s₂.
        guard (defined o y) DivisorZero n s₂ then λ _ s₃.
        fine (apply o x y) s₃
    eval (Tree.both n e f) s = eval e s then λ x s₁. branch (is_zero x) (fine (pos 0)) (eval f) s₁
    eval (Tree.either n e f) s = eval e s then λ x s₁. branch (is_zero x) (eval f) (fine (pos 1)) s₁
    eval (Tree.call n f l) s = evals l s then λ vs s₁. restoring (enter n f vs) s₁

    pub evals : Args → State → Out (List ℤ)
    evals (Tree.none n) s = fine [] s
    evals (Tree.also n e l) s = eval e s then λ v s₁. evals l s₁ then λ vs s₂. fine (v ∷ vs) s₂

  -- a while's test is due once more than there are turns left, at most
  unfoldable pub exec : Stmt → State → Out Flow
  exec (Tree.nothing n) s = fine falls s
  exec (Tree.chain n a b) s = exec a s then next (exec b)
  exec (Tree.discard n e) s = eval e s then λ _ s₁. fine falls s₁
  exec (Tree.if n e a b) s = eval e s then λ x s₁. branch (is_zero x) (exec b) (exec a) s₁
  exec (Tree.while n e b) s = loop (suc s.left) n (eval e) (exec b) s
  exec (Tree.return n e) s = eval e s then λ v s₁. fine (returns v) s₁
  exec (Tree.replace n m f l) s = evals l s then λ vs s₁. fine (replaces m f vs) s₁

abbrev pub no_function : Function
no_function = record { parameters = 0; locals = 0; body = Tree.nothing 0 }

-- the value of a function whose body ends so; `again` runs the function that replaces it, for a turn
abbrev pub finish : (ℕ → List ℤ → State → Out ℤ) → Flow → State → Out ℤ
finish again falls s = fine (pos 0) s
finish again (returns v) s = fine v s
finish again (replaces n f vs) s = spend n s then λ _ s₁. again f vs s₁

-- a call from depth d, where `inner` runs a function one deeper
abbrev pub entering : ℕ → ℕ → (ℕ → List ℤ → State → Out ℤ) → Enter
entering limit d inner n f vs s = descend limit d n s then λ _ s₁. inner f vs s₁

module _ (script : Script) (board : Means) (limit : ℕ) where
  -- function f at depth d with its arguments, at most k calls one in another or one after another
  unfoldable pub body : ℕ → ℕ → ℕ → List ℤ → State → Out ℤ
  body zero d f vs s = ended NoTurnLeft no_place s
  body (suc k) d f vs s =
      let function = get_or script.functions f no_function in
      exec script.lengths board (entering limit d (body k (suc d))) function.body (with_locals s (vs ++ replicate function.locals (pos 0)))
      then finish (body k d)
