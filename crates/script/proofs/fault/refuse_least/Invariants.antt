use Rattle.std.proofs.Common.{◌≡◌, ℕ, ◌<◌, Bool, None}
use Rattle.script.specs.Least.{least_below}
use Rattle.script.proofs.fault.refuse_least.Given as goal

abbrev pub invariant-loop-n : goal.invariant-loop-n
invariant-loop-n g l =
    (p : ℕ → Bool) → ((n : ℕ) (b : Bool) → n < l.fn.nodes → goal.F-post g l.fn.is_at_fault n b → b ≡ p n) → least_below p l.n ≡ None
