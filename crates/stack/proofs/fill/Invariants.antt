use Rattle.std.proofs.Common.{◌≡◌, length, replicate, take}
use Rattle.stack.proofs.fill.Given as goal

abbrev pub invariant-loop-slot : goal.invariant-loop-slot
invariant-loop-slot g l = (length l.slots ≡ length l.initial.slots) × (take l.slot-index l.slots ≡ replicate l.slot-index l.x)
