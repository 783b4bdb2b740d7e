-- INCSP with a negative operand puts no word.
use Rattle.std.proofs.Common.{◌≡◌, ℕ, List, replicate, ℤ, pos, negsuc, ◌<ℤ◌, refl, arith}
use lib.Seq.{paste}
use Rattle.std.proofs.lemmas.Int.{ints}
use Rattle.std.proofs.lemmas.List.Edits.{paste_none}
use Rattle.rules.specs.Rules.{up}

pub up_none : (x : ℤ) → x <ℤ pos 0 → up x ≡ 0
up_none (pos n) h = omega (arith, ints)
up_none (negsuc n) h = refl

pub paste_lower : (xs : List ℤ) (used : ℕ) (x : ℤ) → x <ℤ pos 0 → xs ≡ paste xs used (replicate (up x) (pos 0)) (up x)
paste_lower xs used (pos n) h = absurd (omega (arith, ints))
paste_lower xs used (negsuc n) h = paste_none xs used (replicate 0 (pos 0))
