-- The machine's tests of words are those of the meaning.
use Rattle.std.proofs.Common.{◌≡◌, Bool, true, false, ℤ, pos, negsuc, ◌-ℤ◌, sym, refl, ap, ◌∙◌, subst, arith, eq-eqb, eqb-true}
use borrow.Author.Tests.{clash}
use Rattle.std.proofs.lemmas.Int.{ints}
use Rattle.rules.specs.Rules.{is_zero}
use Rattle.effects.specs.Effects.{truth}
use Rattle.meaning.specs.Words.{eq_z, flag}
use Rattle.meaning.specs.Words

pub zero_same : (x : ℤ) → is_zero x ≡ Words.is_zero x
zero_same (pos n) = refl
zero_same (negsuc n) = refl

pub flag_same : (b : Bool) → truth b ≡ flag b
flag_same true = refl
flag_same false = refl

zero_true : (z : ℤ) → is_zero z ≡ true → z ≡ pos 0
zero_true (pos n) e = ap pos (eqb-true n 0 e)
zero_true (negsuc n) e = absurd (clash e)

eq_z_true : (x y : ℤ) → eq_z x y ≡ true → x ≡ y
eq_z_true (pos a) (pos b) e = ap pos (eqb-true a b e)
eq_z_true (pos a) (negsuc b) e = absurd (clash e)
eq_z_true (negsuc a) (pos b) e = absurd (clash e)
eq_z_true (negsuc a) (negsuc b) e = ap negsuc (eqb-true a b e)

eq_z-same : (x : ℤ) → eq_z x x ≡ true
eq_z-same (pos a) = eq-eqb a a refl
eq_z-same (negsuc a) = eq-eqb a a refl

alike : (b c : Bool) → (b ≡ true → c ≡ true) → (c ≡ true → b ≡ true) → b ≡ c
alike true c f g = sym (f refl)
alike false true f g = g refl
alike false false f g = refl

-- two words are equal where their difference is 0
pub equal_same : (x y : ℤ) → is_zero (x -ℤ y) ≡ eq_z x y
equal_same x y =
    alike (is_zero (x -ℤ y)) (eq_z x y)
    (λ e. let z = zero_true (x -ℤ y) e in let q : x ≡ y = omega (arith, ints) in subst (λ (w : ℤ). eq_z x w ≡ true) q (eq_z-same x))
    (λ e. let z = eq_z_true x y e in let q : x -ℤ y ≡ pos 0 = omega (arith, ints) in ap is_zero q ∙ eq-eqb 0 0 refl)
