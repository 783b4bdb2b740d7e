-- Code whose marks all have a property.
use Rattle.std.proofs.Common.{ℕ, zero, suc, [], ◌∷◌, replicate}
use Rattle.std.specs.List.{AllByRecursion}
use Rattle.std.proofs.ByRecursion.{All-append}
use Rattle.answer.specs.Numbers.{no_place}
use Rattle.scheme.specs.Code.{Code, Target, Item, width}
use Rattle.scheme.specs.Code
use Rattle.scheme.specs.Written.{jump_mark, mark_of, code_marks}

module _ (P : ℕ → Type 0) where
  -- a jump to the start of a while carries the while's node
  abbrev pub Aims : Target → Type 0
  Aims (Code.behind n) = Unit {0}
  Aims (Code.loop w) = P w

  -- a jump keeps its own mark too: it may come to aim elsewhere
  abbrev pub Bears : Item → Type 0
  Bears (Code.csti v m) = P m
  Bears (Code.plain p m) = P m
  Bears (Code.pop m) = P m
  Bears (Code.goto t m) = P m × Aims t
  Bears (Code.ifzero t m) = P m × Aims t
  Bears (Code.ifnzro t m) = P m × Aims t
  Bears (Code.call k f m) = P m
  Bears (Code.tcall k n f m) = P m
  Bears (Code.ret n m) = P m
  Bears _ = Unit {0}

  abbrev pub Marked : Code → Type 0
  Marked [] = Unit {0}
  Marked (i ∷ C) = Bears i × Marked C

-- the marks themselves, where having none will do
module _ (P : ℕ → Type 0) (none : P no_place) where
  jump_mark_lem : (t : Target) (m : ℕ) → P m × Aims P t → P (jump_mark t m)
  jump_mark_lem (Code.behind n) m h = h.0
  jump_mark_lem (Code.loop w) m h = h.1

  item_mark : (i : Item) → Bears P i → P (mark_of i)
  item_mark (Code.csti v m) h = h
  item_mark (Code.plain p m) h = h
  item_mark (Code.pop m) h = h
  item_mark (Code.goto t m) h = jump_mark_lem t m h
  item_mark (Code.ifzero t m) h = jump_mark_lem t m h
  item_mark (Code.ifnzro t m) h = jump_mark_lem t m h
  item_mark (Code.call k f m) h = h
  item_mark (Code.tcall k n f m) h = h
  item_mark (Code.ret n m) h = h
  item_mark _ h = none

  copies : (n m : ℕ) → P m → AllByRecursion P (replicate n m)
  copies zero m h = tt
  copies (suc n) m h = (h, copies n m h)

  pub code_marks_lem : (C : Code) → Marked P C → AllByRecursion P (code_marks C)
  code_marks_lem [] h = tt
  code_marks_lem (i ∷ C) h =
      All-append P (replicate (width i) (mark_of i)) (code_marks C) (copies (width i) (mark_of i) (item_mark i h.0)) (code_marks_lem C h.1)
