-- The first word of a global: the words of those before it.
use Rattle.std.proofs.Common.{◌≡◌, ℕ, zero, suc, ◌+◌, List, [], ◌∷◌, take, sum, ◌≤◌, sym, refl, ap, ◌∙◌}
use Rattle.std.proofs.lemmas.List.Sums.{sum_by-cons, sum_by-take-le}
use Rattle.meaning.specs.Meaning.{first_word}

pub first_sum : (gs : List ℕ) (g : ℕ) → first_word gs g ≡ sum (take g gs)
first_sum [] zero = refl
first_sum [] (suc g) = refl
first_sum (x ∷ gs) zero = refl
first_sum (x ∷ gs) (suc g) = ap (λ (n : ℕ). x + n) (first_sum gs g) ∙ sym (sum_by-cons (λ (n : ℕ). n) x (take g gs))

pub sum_before : (gs : List ℕ) (g : ℕ) → sum (take g gs) ≤ sum gs
sum_before gs g = sum_by-take-le (λ (n : ℕ). n) gs g
