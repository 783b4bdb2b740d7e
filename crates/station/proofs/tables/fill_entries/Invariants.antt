use Rattle.std.proofs.Common.{◌≡◌, ℕ, ◌<◌, ◌≤◌, get_or}
use Rattle.script.specs.Scope.{function_at}
use Rattle.station.specs.Filled.{narrowed, entered}
use Rattle.station.proofs.tables.fill_entries.Given as goal

abbrev pub invariant-loop-f : goal.invariant-loop-f
invariant-loop-f l =
    ((k : ℕ) → k < l.f → function_at l.functions k ≡ entered (function_at l.initial.functions k) (narrowed (get_or l.entries k 0)))
    × ((k : ℕ) → l.f ≤ k → function_at l.functions k ≡ function_at l.initial.functions k)
