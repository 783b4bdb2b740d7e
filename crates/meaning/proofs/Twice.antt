-- A whole script run twice, the second time with more turns and depth allowed, part by part.
use Rattle.std.proofs.Common.{◌≡◌, ℕ, zero, suc, ◌+◌, ◌≤◌, List, [], ◌∷◌, ◌++◌, get_or, set, replicate, ℤ, pos, subst, arith}
use Rattle.answer.specs.declared.Ending.TheVariants.{DivisorZero, IndexOutside}
use Rattle.board.specs.Meaning.{Means}
use Rattle.meaning.specs.Words.{apply, defined, flag, is_zero}
use Rattle.meaning.specs.Tree.{Expr, Args, Stmt, Script}
use Rattle.meaning.specs.Tree
use Rattle.meaning.specs.Steps.{State, Out, fine, ended, Enter, Flow, falls, returns, replaces, with_left}
use Rattle.meaning.specs.Meaning.{first_word, inside, word, eval, evals, loop, exec, no_function, finish, body}
use Rattle.meaning.proofs.Onward.{stay, Grows}
use Rattle.meaning.proofs.Follows.{Wider, Follows, goes, stops, Keeps, fewer, bind, changes, reads, gives, guards, branches, nexts, prints, restores}
use Rattle.meaning.proofs.Paying.{spends, descends}

-- one run beside itself
abbrev pub alone : ℕ → Wider
alone limit = record { extra = 0; low = limit; high = limit; up = omega arith }

itself : {A : Type 0} (limit : ℕ) (m : Out A) → Follows (alone limit) m m
itself limit (fine a s) = goes s.left (omega arith)
itself limit (ended e n s) = stops s.left (omega arith)

pub self : {A : Type 0} (limit b : ℕ) (f : State → Out A) → Grows limit f → Keeps (alone limit) b f f
self limit b f grow =
    record {
      first = grow;
      second = grow;
      pair = λ s l lt e. let same : s.left ≡ l = omega arith in subst (λ (x : ℕ). Follows (alone limit) (f s) (f (with_left s x))) same (itself limit (f s));
    }

loop_grows : (limit n : ℕ) (test : State → Out ℤ) (again : State → Out Flow) → Grows limit test → Grows limit again → (j : ℕ) → Grows limit (loop j n test again)
unfolding loop
loop_grows limit n test again p q zero = λ s. stay
loop_grows limit n test again p q (suc j) =
    (bind (self limit (suc j) test p) λ x. branches (is_zero x) (gives falls)
    (bind (self limit (suc j) again q) (nexts (spends j n (self limit j (loop j n test again) (loop_grows limit n test again p q j)))))).first

module _ (w : Wider) (b n : ℕ) {test test' : State → Out ℤ} {again again' : State → Out Flow} (tests : Keeps w b test test') (agains : Keeps w b again again') where
  pub loop_twice : (j j' : ℕ) → j ≤ b → j + w.extra ≤ j' → Keeps w j (loop j n test again) (loop j' n test' again')
  unfolding loop
  loop_twice zero j' le up =
      record { first = λ s. stay; second = loop_grows w.high n test' again' tests.second agains.second j'; pair = λ s l lt e. absurd (omega arith) }
  loop_twice (suc j) zero le up = absurd (omega arith)
  loop_twice (suc j) (suc j') le up =
      bind (fewer b (suc j) le tests) λ x. branches (is_zero x) (gives falls)
      (bind (fewer b (suc j) le agains) (nexts (spends j n (loop_twice j j' (omega arith) (omega arith)))))

module _ (w : Wider) where
  abbrev Alike : {A : Type 0} → ℕ → (State → Out A) → (State → Out A) → Type 0
  Alike b f f' = Keeps w b f f'

  module _ (lengths : List ℕ) (board : Means) (b : ℕ) (enter enter' : Enter) (enters : (n f : ℕ) (vs : List ℤ) → Alike b (enter n f vs) (enter' n f vs)) where
    mutual
      unfolding eval

      pub eval_twice : (e : Expr) → Alike b (eval lengths board enter e) (eval lengths board enter' e)
      eval_twice (Tree.constant n v) = gives v
      eval_twice (Tree.local n j) = reads (λ g l. get_or l j (pos 0))
      eval_twice (Tree.global n v) = reads (λ g l. get_or g (first_word lengths v) (pos 0))
      eval_twice (Tree.element n v i) =
          bind (eval_twice i) λ x. bind (guards (inside lengths v x) IndexOutside n) λ _.
          reads (λ g l. get_or g (word lengths v x) (pos 0))
      eval_twice (Tree.set_local n j e) = bind (eval_twice e) λ v. changes (λ g l. v) (λ g l. g) (λ g l. set l j v)
      eval_twice (Tree.set_global n j e) = bind (eval_twice e) λ v. changes (λ g l. v) (λ g l. set g (first_word lengths j) v) (λ g l. l)
      eval_twice (Tree.set_element n j i e) =
          bind (eval_twice i) λ x. bind (guards (inside lengths j x) IndexOutside n) λ _.
          bind (eval_twice e) λ v. changes (λ g l. v) (λ g l. set g (word lengths j x) v) (λ g l. l)
      eval_twice (Tree.negation n e) = bind (eval_twice e) λ v. gives (flag (is_zero v))
      eval_twice (Tree.print n e) = bind (eval_twice e) λ v. prints board n v
      eval_twice (Tree.binary n o e f) =
          bind (eval_twice e) λ x. bind (eval_twice f) λ y.
          bind (guards (defined o y) DivisorZero n) λ _. gives (apply o x y)
      eval_twice (Tree.both n e f) = bind (eval_twice e) λ x. branches (is_zero x) (gives (pos 0)) (eval_twice f)
      eval_twice (Tree.either n e f) = bind (eval_twice e) λ x. branches (is_zero x) (eval_twice f) (gives (pos 1))
      eval_twice (Tree.call n f l) = bind (evals_twice l) λ vs. restores (enters n f vs)

      pub evals_twice : (l : Args) → Alike b (evals lengths board enter l) (evals lengths board enter' l)
      evals_twice (Tree.none n) = gives []
      evals_twice (Tree.also n e l) = bind (eval_twice e) λ v. bind (evals_twice l) λ vs. gives (v ∷ vs)

    pub exec_twice : (st : Stmt) → Alike b (exec lengths board enter st) (exec lengths board enter' st)
    unfolding exec
    exec_twice (Tree.nothing n) = gives falls
    exec_twice (Tree.chain n a c) = bind (exec_twice a) (nexts (exec_twice c))
    exec_twice (Tree.discard n e) = bind (eval_twice e) λ _. gives falls
    exec_twice (Tree.if n e a c) = bind (eval_twice e) λ x. branches (is_zero x) (exec_twice c) (exec_twice a)
    exec_twice (Tree.while n e c) =
        let p = eval_twice e in
        let q = exec_twice c in
        record {
          first = λ s. loop_grows w.low n (eval lengths board enter e) (exec lengths board enter c) p.first q.first (suc s.left) s;
          second = λ s. loop_grows w.high n (eval lengths board enter' e) (exec lengths board enter' c) p.second q.second (suc s.left) s;
          pair = λ s l lt up. (loop_twice w b n p q (suc s.left) (suc l) lt (omega arith)).pair s l (omega arith) up;
        }
    exec_twice (Tree.return n e) = bind (eval_twice e) λ v. gives (returns v)
    exec_twice (Tree.replace n m f l) = bind (evals_twice l) λ vs. gives (replaces m f vs)

  finish_twice : (b : ℕ) {again again' : ℕ → List ℤ → State → Out ℤ} → ((f : ℕ) (vs : List ℤ) → Alike b (again f vs) (again' f vs)) → (fl : Flow) → Alike (suc b) (finish again fl) (finish again' fl)
  finish_twice b p falls = gives (pos 0)
  finish_twice b p (returns v) = gives v
  finish_twice b p (replaces n f vs) = spends b n (p f vs)

  -- a function calls or is replaced by functions that keep it
  module _ (script : Script) (board : Means) (j j' : ℕ) (inner : (d f : ℕ) (vs : List ℤ) → Alike j (body script board w.low j d f vs) (body script board w.high j' d f vs)) where
    body-step : (d f : ℕ) (vs : List ℤ) → Alike (suc j) (body script board w.low (suc j) d f vs) (body script board w.high (suc j') d f vs)
    unfolding body
    body-step d f vs =
        let function = get_or script.functions f no_function in
        bind
        (bind (changes (λ g l. tt {0}) (λ g l. g) (λ g l. vs ++ replicate function.locals (pos 0)))
        λ _. exec_twice script.lengths board (suc j) _ _ (λ n f₁ vs₁. descends j n (inner (suc d) f₁ vs₁) d) function.body)
        (finish_twice j (inner d))

module _ (script : Script) (board : Means) where
  pub body_grows : (limit j d f : ℕ) (vs : List ℤ) → Grows limit (body script board limit j d f vs)
  unfolding body
  body_grows limit zero d f vs = λ s. stay
  body_grows limit (suc j) d f vs = (body-step (alone limit) script board j j (λ d₁ f₁ vs₁. self limit j (body script board limit j d₁ f₁ vs₁) (body_grows limit j d₁ f₁ vs₁)) d f vs).first

  -- a function, each time with a number above the turns left
  pub body_twice : (w : Wider) (j j' : ℕ) → j + w.extra ≤ j' → (d f : ℕ) (vs : List ℤ) → Keeps w j (body script board w.low j d f vs) (body script board w.high j' d f vs)
  unfolding body
  body_twice w zero j' up d f vs = record { first = λ s. stay; second = body_grows w.high j' d f vs; pair = λ s l lt e. absurd (omega arith) }
  body_twice w (suc j) zero up d f vs = absurd (omega arith)
  body_twice w (suc j) (suc j') up d f vs = body-step w script board j j' (λ d₁ f₁ vs₁. body_twice w j j' (omega arith) d₁ f₁ vs₁) d f vs
