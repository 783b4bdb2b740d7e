use Rattle.std.proofs.Common.{◌+◌, ◌*◌, ◌≤◌}
use Rattle.scheme.specs.Scheme.{zeros_code}
use Rattle.draft.specs.Drafted.{code_of, room_of, IsSameTable}
use Rattle.phrases.specs.Turns.{Turns}
use Rattle.writer.proofs.put_zeros.Given as goal

abbrev pub invariant-loop-i : goal.invariant-loop-i
invariant-loop-i l = Turns (code_of l.initial.draft) (code_of l.draft) (zeros_code l._i) × (room_of l.initial.draft ≤ room_of l.draft + 2 * l._i) × IsSameTable l.initial.draft l.draft
