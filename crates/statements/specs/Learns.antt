-- What is known of the places of loops and of functions while code is written: for each its length in words up to the end. And the stack of
-- open loops, which each part leaves as it was.
use Rattle.std.specs.Prelude.{◌≡◌, ℕ, List, length, take, slice_index}
use Rattle.stack.specs.declared.Stack.{Stack}
use Rattle.scheme.specs.Code as S
use Rattle.scheme.specs.Written.{loop_end, entry_end}
use Rattle.draft.specs.Draft.{draft}
use Rattle.draft.specs.declared.cells.Cell.{Cell}

-- the table has the place of every loop of the code
abbrev pub Knows : List ℕ → S.Code → Type 0
Knows starts C = (w : ℕ) → slice_index starts w ≡ loop_end C w

-- a table that knew the loops of code C now knows those of F C
abbrev pub Learns : List Cell → List ℕ → List ℕ → (S.Code → S.Code) → Type 0
Learns D s r F = (C : S.Code) → D ≡ draft C → Knows s C → Knows r (F C)

-- the same of the entries of functions
abbrev pub KnowsEntries : List ℕ → S.Code → Type 0
KnowsEntries entries C = (f : ℕ) → slice_index entries f ≡ entry_end C f

abbrev pub LearnsEntries : List Cell → List ℕ → List ℕ → (S.Code → S.Code) → Type 0
LearnsEntries D s r F = (C : S.Code) → D ≡ draft C → KnowsEntries s C → KnowsEntries r (F C)

-- the same entries are in use, in the slots that were lent
pub record IsAsBefore {T : Type 0} (old new : Stack T) : Type 0 where
  pub used : new.used ≡ old.used
  pub long : length new.slots.now ≡ length old.slots.now
  pub kept : take old.used new.slots.now ≡ take old.used old.slots.now
  pub lender : new.slots.ghost_name ≡ old.slots.ghost_name
