use Rattle.std.proofs.Common.{◌≡◌, ◌≤◌, length}
use Rattle.board.specs.Meaning.{Framed}
use Rattle.machine.proofs.Falls.{weight}
use Rattle.machine.proofs.Going.{Leads}
use Rattle.machine.proofs.run.Given as goal

abbrev pub invariant-loop-next : goal.invariant-loop-next
invariant-loop-next g l =
    let b = g.B.Board in
    (l.stack.used ≤ length l.stack.slots.now)
    × (length l.stack.slots.now ≡ length l.initial.stack.slots.now)
    × (l.stack.slots.ghost_name ≡ l.initial.stack.slots.ghost_name)
    × (b.lent l.board ≡ b.lent l.initial.board)
    × ((b.means l.board).inputs ≡ (b.means l.initial.board).inputs)
    × Framed (b.means l.initial.board).readings (b.means l.board).readings (b.beside l.initial.board) (b.beside l.board)
    × Leads (record { code = l.code; deepest = l.deepest })
    (record { words = l.initial.stack.slots.now; used = l.initial.stack.used; board = b.means l.initial.board; registers = l.initial.registers })
    (record { words = l.stack.slots.now; used = l.stack.used; board = b.means l.board; registers = l.registers })

abbrev pub decreases-loop-next : goal.decreases-loop-next
decreases-loop-next g l = weight (length l.code) l.registers
