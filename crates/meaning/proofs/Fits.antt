-- Operators give 32-bit words.
use Rattle.std.proofs.Common.{Bool, true, false, ℤ, arith, w32, SFits}
use lib.Signed.{mag_rem}
use mir.ValLaws.{sfits_le}
use Rattle.std.proofs.lemmas.Int.{SFits-int_wrap}
use Rattle.meaning.specs.Words.{Operator, add, sub, mul, div, rem, eq, ne, lt, ge, gt, le, apply, flag}

pub flag-fits : (b : Bool) → SFits w32 (flag b)
flag-fits true = record { sfits = omega arith }
flag-fits false = record { sfits = omega arith }

pub apply-fits : (o : Operator) (x y : ℤ) → SFits w32 x → SFits w32 (apply o x y)
apply-fits add x y f = SFits-int_wrap w32 _
apply-fits sub x y f = SFits-int_wrap w32 _
apply-fits mul x y f = SFits-int_wrap w32 _
apply-fits div x y f = SFits-int_wrap w32 _
apply-fits rem x y f = sfits_le (mag_rem x y) f
apply-fits eq x y f = flag-fits _
apply-fits ne x y f = flag-fits _
apply-fits lt x y f = flag-fits _
apply-fits ge x y f = flag-fits _
apply-fits gt x y f = flag-fits _
apply-fits le x y f = flag-fits _
