-- A run leaves as many globals as it was handed, part by part.
use Rattle.std.proofs.Common.{◌≡◌, ℕ, zero, suc, List, [], ◌∷◌, ◌++◌, get_or, set, replicate, ℤ, pos, refl, length-set}
use Rattle.answer.specs.Numbers.{no_place}
use Rattle.answer.specs.declared.Ending.TheVariants.{DivisorZero, IndexOutside, PageFull, NoTurnLeft}
use Rattle.board.specs.Meaning.{Means, has_room}
use Rattle.meaning.specs.Words.{apply, defined, flag, is_zero}
use Rattle.meaning.specs.Tree.{Expr, Args, Stmt, Script}
use Rattle.meaning.specs.Tree
use Rattle.meaning.specs.Steps.{State, Out, fine, ended, Enter, Flow, falls, returns, replaces, with_globals, with_locals, with_reading}
use Rattle.meaning.specs.Meaning.{first_word, inside, word, showing, eval, evals, loop, exec, no_function, finish, body}
use Rattle.meaning.specs.Run.{record_of, starting, outcome}
use Rattle.meaning.proofs.Onward.{final}
use Rattle.bounds.specs.Bounds.{GlobalsStay}
use Rattle.bounds.proofs.Stays.{Stays, bind, changes, reads, gives, ends, guards, branches, nexts, restores, spends, descends}

loop_stays : (n : ℕ) {test : State → Out ℤ} {again : State → Out Flow} → Stays test → Stays again → (k : ℕ) → Stays (loop k n test again)
unfolding loop
loop_stays n p q zero = ends NoTurnLeft n
loop_stays n p q (suc k) = bind p λ x. branches (is_zero x) (gives falls) (bind q (nexts (spends n (loop_stays n p q k))))

module _ (lengths : List ℕ) (board : Means) (enter : Enter) (enters : (n f : ℕ) (vs : List ℤ) → Stays (enter n f vs)) where
  -- a global is set in place
  sets : (i : ℕ) (v : ℤ) → Stays (λ s. fine v (with_globals s (set s.globals i v)))
  sets i v = changes (λ s. v) (λ s. with_globals s (set s.globals i v)) (λ s. length-set s.globals i v)

  mutual
    unfolding eval

    eval_stays : (e : Expr) → Stays (eval lengths board enter e)
    eval_stays (Tree.constant n v) = gives v
    eval_stays (Tree.local n k) = reads (λ s. get_or s.locals k (pos 0))
    eval_stays (Tree.global n g) = reads (λ s. get_or s.globals (first_word lengths g) (pos 0))
    eval_stays (Tree.element n g i) =
        bind (eval_stays i) λ x. bind (guards (λ s. inside lengths g x) IndexOutside n) λ _.
        reads (λ s. get_or s.globals (word lengths g x) (pos 0))
    eval_stays (Tree.set_local n k e) = bind (eval_stays e) λ v. changes (λ s. v) (λ s. with_locals s (set s.locals k v)) (λ s. refl)
    eval_stays (Tree.set_global n g e) = bind (eval_stays e) λ v. sets (first_word lengths g) v
    eval_stays (Tree.set_element n g i e) =
        bind (eval_stays i) λ x. bind (guards (λ s. inside lengths g x) IndexOutside n) λ _.
        bind (eval_stays e) λ v. sets (word lengths g x) v
    eval_stays (Tree.negation n e) = bind (eval_stays e) λ v. gives (flag (is_zero v))
    eval_stays (Tree.print n e) =
        bind (eval_stays e) λ v. bind (guards (λ s. has_room (showing board s.readings)) PageFull n) λ _.
        changes (λ s. v) (λ s. with_reading s v) (λ s. refl)
    eval_stays (Tree.binary n o e f) =
        bind (eval_stays e) λ x. bind (eval_stays f) λ y.
        bind (guards (λ s. defined o y) DivisorZero n) λ _. gives (apply o x y)
    eval_stays (Tree.both n e f) = bind (eval_stays e) λ x. branches (is_zero x) (gives (pos 0)) (eval_stays f)
    eval_stays (Tree.either n e f) = bind (eval_stays e) λ x. branches (is_zero x) (eval_stays f) (gives (pos 1))
    eval_stays (Tree.call n f l) = bind (evals_stays l) λ vs. restores (enters n f vs)

    evals_stays : (l : Args) → Stays (evals lengths board enter l)
    evals_stays (Tree.none n) = gives []
    evals_stays (Tree.also n e l) = bind (eval_stays e) λ v. bind (evals_stays l) λ vs. gives (v ∷ vs)

  exec_stays : (st : Stmt) → Stays (exec lengths board enter st)
  unfolding exec
  exec_stays (Tree.nothing n) = gives falls
  exec_stays (Tree.chain n a b) = bind (exec_stays a) (nexts (exec_stays b))
  exec_stays (Tree.discard n e) = bind (eval_stays e) λ _. gives falls
  exec_stays (Tree.if n e a b) = bind (eval_stays e) λ x. branches (is_zero x) (exec_stays b) (exec_stays a)
  exec_stays (Tree.while n e b) =
      let p = eval_stays e in
      let q = exec_stays b in
      record { stays = λ s. (loop_stays n p q (suc s.left)).stays s }
  exec_stays (Tree.return n e) = bind (eval_stays e) λ v. gives (returns v)
  exec_stays (Tree.replace n m f l) = bind (evals_stays l) λ vs. gives (replaces m f vs)

finish_stays : {again : ℕ → List ℤ → State → Out ℤ} → ((f : ℕ) (vs : List ℤ) → Stays (again f vs)) → (fl : Flow) → Stays (finish again fl)
finish_stays p falls = gives (pos 0)
finish_stays p (returns v) = gives v
finish_stays p (replaces n f vs) = spends n (p f vs)

body_stays : (script : Script) (board : Means) (limit k d f : ℕ) (vs : List ℤ) → Stays (body script board limit k d f vs)
unfolding body
body_stays script board limit zero d f vs = ends NoTurnLeft no_place
body_stays script board limit (suc k) d f vs =
    let function = get_or script.functions f no_function in
    bind
    (bind (changes (λ s. tt {0}) (λ s. with_locals s (vs ++ replicate function.locals (pos 0))) (λ s. refl))
    λ _. exec_stays script.lengths board _ (λ n f₁ vs₁. descends limit d n (body_stays script board limit k (suc d) f₁ vs₁)) function.body)
    (finish_stays (λ f₁ vs₁. body_stays script board limit k d f₁ vs₁))

-- a record tells the globals of the state that is left
told : (turns : ℕ) (m : Out ℤ) → (record_of turns m).globals ≡ (final m).globals
told turns (fine v s) = refl
told turns (ended e n s) = refl

pub globals_stay : GlobalsStay
unfolding outcome
globals_stay script globals board turns depth =
    let s = starting globals board turns in
    let m = outcome script globals board turns depth in
    rw (told turns m) ((descends depth 0 no_place (body_stays script board depth turns 1 0 board.inputs)).stays s)
