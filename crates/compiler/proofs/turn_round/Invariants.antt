use Rattle.std.proofs.Common.{◌≡◌, ◌++◌, map, take, drop}
use Rattle.compiler.specs.Compiled.{position_of}
use Rattle.compiler.proofs.turn_round.Given as goal

abbrev pub invariant-loop-entry : goal.invariant-loop-entry
invariant-loop-entry l = l.entries ≡ map (position_of l.whole) (take l.entry-index l.initial.entries) ++ drop l.entry-index l.initial.entries
