-- A draft that has positions keeps them with its table, and its code and the room before it are together no more words than that.
use Rattle.std.proofs.Common.{◌+◌, ◌≤◌, length, arith}
use Rattle.std.proofs.lemmas.List.{length-drop}
use Rattle.draft.specs.declared.Draft.{Draft}
use Rattle.draft.specs.Drafted.{code_of, room_of, IsSameTable, positions, HasPositions, PositionsStay}

pub kept : (was is : Draft) → IsSameTable was is → HasPositions was → HasPositions is
kept was is t h = omega (arith, t.long)

pub within_positions : (d : Draft) → HasPositions d → length (code_of d) + room_of d ≤ positions
unfolding code_of
within_positions d h = omega (arith, d.within, length-drop d.front d.cells.now)

pub positions_stay : PositionsStay
positions_stay was is t h = let k = kept was is t h in (k, within_positions is k)
