-- What writing does to a draft, said of any code that the draft may be of.
use Rattle.std.specs.Prelude.{◌≡◌, ℕ, List, ℤ, pos}
use Rattle.scheme.specs.Code as S
use Rattle.scheme.specs.Writing as W
use Rattle.draft.specs.Operations.{place_mark}
use Rattle.draft.specs.Draft.{place_of, draft}
use Rattle.draft.specs.declared.cells.Cell.{Cell}
use Rattle.draft.specs.declared.cells.Place.{Place}
use Rattle.draft.specs.declared.cells.Condition.{Condition}
use Rattle.draft.specs.declared.cells.Condition.TheVariants.{Zero, Nonzero}

-- cells that were the draft of code C are now the draft of F C
abbrev pub Turns : List Cell → List Cell → (S.Code → S.Code) → Type 0
Turns D E F = (C : S.Code) → D ≡ draft C → E ≡ draft (F C)

-- a short way out, with the cells that are left: a jump to a loop carries the loop's mark, whichever it was given
pub record IsWay (to : Place) (mark : ℕ) (E : List Cell) (w : W.Way) : Type 0 where
  pub rest : E ≡ draft w.rest
  pub goes : to ≡ place_of w.to
  pub marked : place_mark to mark ≡ place_mark to w.mark

abbrev pub Finds : List Cell → Place → ℕ → List Cell → (S.Code → W.Way) → Type 0
Finds D to mark E F = (C : S.Code) → D ≡ draft C → IsWay to mark E (F C)

-- the short way out where the first operand decides by being so, of && and of ||, and the value that is pushed
abbrev pub way_before : Condition → ℕ → {C : S.Code} → S.View C → W.Way
way_before Zero m v = W.and_before m v
way_before Nonzero m v = W.or_before m v

abbrev pub way_out : Condition → ℕ → S.Code → W.Way
way_out k m C = way_before k m (S.view C)

abbrev pub decided : Condition → ℤ
decided Zero = pos 0
decided Nonzero = pos 1
