use Rattle.std.proofs.Common.{◌≡◌, map, length, take}
use Rattle.resolving.specs.Resolved.{cell_word, cell_mark}
use Rattle.resolving.proofs.resolve.Given as goal

abbrev pub invariant-loop-i : goal.invariant-loop-i
invariant-loop-i l = (take l.i l.words ≡ map (cell_word l.starts l.entries (length l.cells)) (take l.i l.cells)) × (take l.i l.marks ≡ map cell_mark (take l.i l.cells))
