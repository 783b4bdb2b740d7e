-- What a draft is: the cells of the code so far, how many more there is room for, and the table that both lie in.
use Rattle.std.specs.Prelude.{◌≡◌, ℕ, ◌+◌, ◌≤◌, List, length, drop}
use Rattle.draft.specs.declared.Draft.{Draft}
use Rattle.draft.specs.declared.cells.Cell.{Cell}

unfoldable pub code_of : Draft → List Cell
code_of d = drop d.front d.cells.now

abbrev pub room_of : Draft → ℕ
room_of d = d.front

-- one table, as long as it was: who lent it has in it what the draft has
pub record IsSameTable (was is : Draft) : Type 0 where
  pub lender : is.cells.ghost_name ≡ was.cells.ghost_name
  pub long : length is.cells.now ≡ length was.cells.now

-- how many words code can have: the end of them is a position too, and each position is a word that is not negative
abbrev pub positions : ℕ
positions = 2147483647

-- each word of the code has a position, and so has each that will be put in front of it: the table has no more cells than that. It is so of
-- the drafts that a script is written in, since the writer asks it of their cells
abbrev pub HasPositions : Draft → Type 0
HasPositions d = length d.cells.now ≤ positions

-- who keeps the table keeps the positions, and its code and the room before it are together no more words than there are
abbrev pub PositionsStay : Type 0
PositionsStay = (was is : Draft) → IsSameTable was is → HasPositions was → HasPositions is × (length (code_of is) + room_of is ≤ positions)
