-- The numbers on which functions and whiles recurse: a run beside itself, with two of them.
use Rattle.std.proofs.Common.{◌≡◌, ℕ, suc, ◌<◌, ◌≤◌, max, List, ℤ, sym, ap, ◌∙◌, arith}
use Rattle.board.specs.Meaning.{Means}
use Rattle.meaning.specs.Tree.{Expr, Stmt, Script}
use Rattle.meaning.specs.Steps.{State, Out, fine, ended, Enter, with_left}
use Rattle.meaning.specs.Meaning.{eval, exec, loop, entering, body}
use Rattle.meaning.specs.Laws.{NeverOut}
use Rattle.meaning.proofs.Onward.{Grows}
use Rattle.meaning.proofs.Follows.{Follows, goes, stops, short, Keeps}
use Rattle.meaning.proofs.Paying.{descends}
use Rattle.meaning.proofs.Twice.{alone, self, eval_twice, exec_twice, loop_twice, body_grows, body_twice}

-- what follows a run with no more allowed is the same
same : {A : Type 0} (limit : ℕ) (m m' : Out A) → Follows (alone limit) m m' → m ≡ m'
same limit m m' (goes {a = a} {s = s} l e) = let q : s.left ≡ l = omega arith in ap (λ (x : ℕ). fine a (with_left s x)) q
same limit m m' (stops {e = c} {n = n} {s = s} l e) = let q : s.left ≡ l = omega arith in ap (λ (x : ℕ). ended c n (with_left s x)) q
same limit m m' (short h p) = let r = p.roomier in absurd (omega arith)

-- two numbers give what a larger one gives
meet : {A : Type 0} (limit j k : ℕ) (f : ℕ → State → Out A) → ((i i' : ℕ) → i ≤ i' → Keeps (alone limit) i (f i) (f i')) → (s : State) → s.left < j → s.left < k → f j s ≡ f k s
meet limit j k f keeps s lj lk =
    let i = max j k in
    same limit (f j s) (f i s) ((keeps j i (omega arith)).pair s s.left lj (omega arith))
    ∙ sym (same limit (f k s) (f i s) ((keeps k i (omega arith)).pair s s.left lk (omega arith)))

-- a part of a function at depth d, its calls bounded by i
module _ (script : Script) (board : Means) (limit d i : ℕ) where
  abbrev enter : Enter
  enter = entering limit d (body script board limit i (suc d))

  calls : (n f : ℕ) (vs : List ℤ) → Keeps (alone limit) (suc i) (enter n f vs) (enter n f vs)
  calls n f vs = descends i n (self limit i (body script board limit i (suc d) f vs) (body_grows script board limit i (suc d) f vs)) d

  pub eval_grows : (e : Expr) → Grows limit (eval script.lengths board enter e)
  eval_grows e = (eval_twice (alone limit) script.lengths board (suc i) enter enter calls e).first

  pub exec_grows : (st : Stmt) → Grows limit (exec script.lengths board enter st)
  exec_grows st = (exec_twice (alone limit) script.lengths board (suc i) enter enter calls st).first

  loops : (n : ℕ) (e : Expr) (st : Stmt) (j k : ℕ) → j ≤ k
      → Keeps (alone limit) j (loop j n (eval script.lengths board enter e) (exec script.lengths board enter st)) (loop k n (eval script.lengths board enter e) (exec script.lengths board enter st))
  loops n e st j k le = loop_twice (alone limit) j n (self limit j _ (eval_grows e)) (self limit j _ (exec_grows st)) j k (omega arith) (omega arith)

pub never_out : NeverOut
never_out script board limit d j k s lj lk = (
  (λ f vs. meet limit j k (λ i. body script board limit i d f vs) (λ i i' le. body_twice script board (alone limit) i i' (omega arith) d f vs) s lj lk),
  (λ i n e st. meet limit j k (λ x. loop x n (eval script.lengths board (enter script board limit d i) e) (exec script.lengths board (enter script board limit d i) st)) (loops script board limit d i n e st) s lj lk),
)
