-- Nesting bounds the words that an expression needs.
use Rattle.std.proofs.Common.{ℕ, pred, ◌<◌, ◌≤◌, List, arith}
use Rattle.meaning.specs.Tree.{Expr, Args}
use Rattle.meaning.specs.Tree
use Rattle.symbolic.specs.Proper.{OkE, OkA, Known}
use Rattle.simulation.specs.Nesting.{nest_e, nest_a, NamedE, NamedA, Roomy}

nest_some : (e : Expr) → 1 ≤ nest_e e
nest_some (Tree.constant n v) = omega arith
nest_some (Tree.local n k) = omega arith
nest_some (Tree.global n g) = omega arith
nest_some (Tree.element n g e) = omega arith
nest_some (Tree.set_local n k e) = omega arith
nest_some (Tree.set_global n g e) = omega arith
nest_some (Tree.set_element n g e f) = omega arith
nest_some (Tree.negation n e) = omega arith
nest_some (Tree.print n e) = omega arith
nest_some (Tree.binary n o e f) = omega arith
nest_some (Tree.both n e f) = omega arith
nest_some (Tree.either n e f) = omega arith
nest_some (Tree.call n f a) = omega arith

module _ (lengths : List ℕ) (nl gl : ℕ) (IsKnown : ℕ → ℕ → Type 0) where
  mutual
    roomy_expr : (e : Expr) (r : ℕ) → NamedE lengths nl gl IsKnown e → nest_e e < r → OkE lengths nl gl IsKnown e r
    roomy_expr (Tree.constant n v) r w h = (w, omega arith)
    roomy_expr (Tree.local n k) r w h = (w, omega arith)
    roomy_expr (Tree.global n g) r w h = (w, omega arith)
    roomy_expr (Tree.element n g e) r w h = let p = nest_some e in (w.0, omega arith, roomy_expr e r w.1 (omega arith))
    roomy_expr (Tree.set_local n k e) r w h = (w.0, omega arith, roomy_expr e (pred r) w.1 (omega arith))
    roomy_expr (Tree.set_global n g e) r w h = (w.0, omega arith, roomy_expr e (pred r) w.1 (omega arith))
    roomy_expr (Tree.set_element n g e f) r w h = let p = nest_some e in (w.0, omega arith, roomy_expr e r w.1 (omega arith), roomy_expr f (pred r) w.2 (omega arith))
    roomy_expr (Tree.negation n e) r w h = roomy_expr e r w (omega arith)
    roomy_expr (Tree.print n e) r w h = roomy_expr e r w (omega arith)
    roomy_expr (Tree.binary n o e f) r w h = (roomy_expr e r w.0 (omega arith), roomy_expr f (pred r) w.1 (omega arith), omega arith)
    roomy_expr (Tree.both n e f) r w h = (roomy_expr e r w.0 (omega arith), roomy_expr f r w.1 (omega arith), omega arith)
    roomy_expr (Tree.either n e f) r w h = (roomy_expr e r w.0 (omega arith), roomy_expr f r w.1 (omega arith), omega arith)
    roomy_expr (Tree.call n f a) r w h = (roomy_args a r w.0 (omega arith), w.1)

    roomy_args : (a : Args) (r : ℕ) → NamedA lengths nl gl IsKnown a → nest_a a < r → OkA lengths nl gl IsKnown a r
    roomy_args (Tree.none n) r w h = tt
    roomy_args (Tree.also n e a) r w h = (roomy_expr e r w.0 (omega arith), roomy_args a (pred r) w.1 (omega arith), omega arith)

pub roomy : Roomy
roomy lengths fns nl gl = (roomy_expr lengths nl gl (Known fns), roomy_args lengths nl gl (Known fns))
