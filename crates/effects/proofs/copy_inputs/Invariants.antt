use Rattle.std.proofs.Common.{◌≡◌, length, take}
use Rattle.effects.proofs.copy_inputs.Given as goal

abbrev pub invariant-loop-n : goal.invariant-loop-n
invariant-loop-n g l =
    (length l.slots ≡ length l.initial.slots)
    × (take l.n l.slots ≡ take l.n (g.B.Board.means l.board).inputs)
