-- 32-bit words: which fit, and the operators that leave a word as it is.
use Rattle.std.proofs.Common.{◌≡◌, ℕ, suc, ◌+◌, ◌/◌, ◌^◌, ◌<◌, Bool, true, false, ℤ, pos, negsuc, neg_ℤ, ap, ◌∙◌, arith, w32, eqb-true}
use lib.IntN.{+ℤ_idr, *ℤ-one, pos-+ℤ-pos}
use lib.Signed.{quot_z, mag_rem}
use mir.ValLaws.{sfits_le}
use Rattle.std.specs.Int.{int_wrap}
use Rattle.std.proofs.lemmas.Int.{int_wrap_fits, SFits-int_wrap}
use Rattle.meaning.specs.Words.{Operator, apply, is_zero, eq_z, flag}
use Rattle.meaning.specs.Words
use Rattle.symbolic.specs.Symbolic.{Fits}

never : {A : Type 0} → ◌≡◌ {A = Bool} false true → A
never e = absurd (let z : ◌≡◌ {A = ℕ} 0 1 = cc in omega arith)

pub eq_z_true : (x y : ℤ) → eq_z x y ≡ true → x ≡ y
eq_z_true (pos a) (pos b) e = ap pos (eqb-true a b e)
eq_z_true (pos a) (negsuc b) e = never e
eq_z_true (negsuc a) (pos b) e = never e
eq_z_true (negsuc a) (negsuc b) e = ap negsuc (eqb-true a b e)

pub add_zero : (x y : ℤ) → is_zero y ≡ true → Fits x → apply Words.add x y ≡ x
add_zero x y e f = rw (eq_z_true y (pos 0) e, +ℤ_idr) (int_wrap_fits w32 x f)

pub sub_zero : (x y : ℤ) → is_zero y ≡ true → Fits x → apply Words.sub x y ≡ x
sub_zero x y e f = rw (eq_z_true y (pos 0) e, +ℤ_idr) (int_wrap_fits w32 x f)

quot_one : (x : ℤ) → quot_z x (pos 1) ≡ x
quot_one (pos a) = ap pos (omega arith)
quot_one (negsuc a) = ap neg_ℤ (ap pos (let e : suc a / 1 ≡ suc a = omega arith in e))

pub div_one : (x : ℤ) → Fits x → apply Words.div x (pos 1) ≡ x
div_one x f = rw quot_one (int_wrap_fits w32 x f)

pub mul_one : (x y : ℤ) → eq_z y (pos 1) ≡ true → Fits x → apply Words.mul x y ≡ x
unfolding lib.IntN.one
mul_one x y e f = ap (apply Words.mul x) (eq_z_true y (pos 1) e) ∙ (ap (int_wrap w32) (*ℤ-one x) ∙ int_wrap_fits w32 x f)

pub fits_small : (n : ℕ) → n < 2 ^ 31 → Fits (pos n)
fits_small n h = record { sfits = h }

pub fits_zero : Fits (pos 0)
fits_zero = fits_small 0 (omega arith)

pub fits-flag : (b : Bool) → Fits (flag b)
fits-flag true = fits_small 1 (omega arith)
fits-flag false = fits_zero

-- a remainder is no greater than what was divided; every other result is wrapped or a flag
pub fits-apply : (o : Operator) (x y : ℤ) → Fits x → Fits (apply o x y)
fits-apply Words.add x y f = SFits-int_wrap w32 _
fits-apply Words.sub x y f = SFits-int_wrap w32 _
fits-apply Words.mul x y f = SFits-int_wrap w32 _
fits-apply Words.div x y f = SFits-int_wrap w32 _
fits-apply Words.rem x y f = sfits_le (mag_rem x y) f
fits-apply Words.eq x y f = fits-flag _
fits-apply Words.ne x y f = fits-flag _
fits-apply Words.lt x y f = fits-flag _
fits-apply Words.ge x y f = fits-flag _
fits-apply Words.gt x y f = fits-flag _
fits-apply Words.le x y f = fits-flag _

pub add_small : (a b : ℕ) → a + b < 2 ^ 31 → apply Words.add (pos a) (pos b) ≡ pos (a + b)
add_small a b h = rw pos-+ℤ-pos (int_wrap_fits w32 (pos (a + b)) (fits_small (a + b) h))
