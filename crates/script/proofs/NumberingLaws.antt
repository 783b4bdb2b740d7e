-- The number of a child is the one that was worked out for it.
use Rattle.std.proofs.Common.{◌≡◌, ℕ, zero, suc, ◌<◌, List, length, get_or, ℤ, pos, refl, ap, ◌∙◌, ⊎_elim, arith}
use Rattle.std.proofs.lemmas.List.{length_push, get_or_append_left, get_or_push}
use Rattle.std.proofs.lemmas.Bool.{cases_lt}
use Rattle.script.specs.declared.Node.{Node}
use Rattle.script.specs.Numbering.{number_at, numbers_below, number_of}

module _ (by : Node → (ℤ → ℕ) → ℕ) (xs : List Node) where
  length_numbers : (n : ℕ) → length (numbers_below by xs n) ≡ n
  unfolding numbers_below
  length_numbers zero = refl
  length_numbers (suc n) = omega (arith, length_push (numbers_below by xs n) (number_of by xs n), length_numbers n)

  number_last : (n m : ℕ) → m ≡ n → get_or (numbers_below by xs (suc n)) m 0 ≡ number_of by xs m
  unfolding numbers_below
  number_last n m e = rw e (get_or_push (numbers_below by xs n) (number_of by xs n) 0 n (length_numbers n))

  number-below : (n m : ℕ) → m < n → get_or (numbers_below by xs n) m 0 ≡ number_of by xs m
  unfolding numbers_below
  number-below zero m h = absurd (omega arith)
  number-below (suc n) m h =
      ⊎_elim
      (λ l. get_or_append_left (numbers_below by xs n) _ 0 m (omega (arith, length_numbers n)) ∙ number-below n m l)
      (λ l. number_last n m (omega arith))
      (cases_lt m n)

  pub number_of_child : (n : ℕ) (x : ℤ) (m : ℕ) → x ≡ pos m → m < n → number_at (numbers_below by xs n) x ≡ number_of by xs m
  number_of_child n x m e h = ap (number_at (numbers_below by xs n)) e ∙ number-below n m h
