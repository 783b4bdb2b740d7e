use Rattle.std.proofs.Common.{ℕ, ◌<◌, get_or, pos, w32, SFits}
use Rattle.station.proofs.known.know_inputs.Given as goal

abbrev pub invariant-loop-n : goal.invariant-loop-n
invariant-loop-n g l = (k : ℕ) → k < l.n → SFits w32 (get_or (g.B.Board.means l.board).inputs k (pos 0))
