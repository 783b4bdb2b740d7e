-- What a count of one, or of none, says of the elements.
use Rattle.std.proofs.Common.{◌≡◌, ℕ, suc, ◌+◌, ◌<◌, ◌≤◌, Bool, true, cond, List, [], ◌∷◌, length, get_or, take, sum_by, count_by, ap, ⊎_elim, mul-zero, arith}
use Rattle.std.proofs.ByRecursion.{All-from_get_or, sum_by_le}
use Rattle.std.proofs.lemmas.List.{get_or-take, length-take-le}
use Rattle.std.proofs.lemmas.List.Sums.{sum_by-cons, sum_by_more, sum_by-take-le, get_or-le-sum_by}
use Rattle.std.proofs.lemmas.Bool.{cond-true, cond-false, cases_Bool}

module _ {X : Type 0} (f : X → ℕ) (d : X) where
  -- two elements that both count
  pub sum_of_two : (xs : List X) (i j : ℕ) → i < j → j < length xs → f (get_or xs i d) + f (get_or xs j d) ≤ sum_by f xs
  sum_of_two xs i j h l =
      let n : i < length (take j xs) = omega (arith, length-take-le j xs (omega arith)) in
      let a = get_or-le-sum_by f (take j xs) i d n in
      let b = ap f (get_or-take j xs i d h) in
      omega (arith, a, b, sum_by_more f xs j d l, sum_by-take-le f xs (j + 1))

  -- no element counts
  pub sum_of_none : (xs : List X) → ((i : ℕ) → i < length xs → f (get_or xs i d) ≤ 0) → sum_by f xs ≤ 0
  sum_of_none xs h = omega (arith, sum_by_le f 0 xs (All-from_get_or (λ x. f x ≤ 0) xs d h), mul-zero (length xs))

module _ {X : Type 0} (p : X → Bool) (d : X) where
  -- an element that passes counts
  pub count_has : (xs : List X) (i : ℕ) → i < length xs → p (get_or xs i d) ≡ true → 1 ≤ count_by p xs
  count_has xs i h e = omega (arith, get_or-le-sum_by (λ x. cond (p x) 1 0) xs i d h, cond-true {A = ℕ} (p (get_or xs i d)) 1 0 e)

  pub count_of_two : (xs : List X) (i j : ℕ) → i < j → j < length xs → p (get_or xs i d) ≡ true → p (get_or xs j d) ≡ true → 2 ≤ count_by p xs
  count_of_two xs i j h l a b = omega (arith, sum_of_two (λ x. cond (p x) 1 0) d xs i j h l, cond-true {A = ℕ} (p (get_or xs i d)) 1 0 a, cond-true {A = ℕ} (p (get_or xs j d)) 1 0 b)

  -- where one counts, there is one
  pub some_counted : (xs : List X) → 1 ≤ count_by p xs → (i : ℕ) × (i < length xs) × (p (get_or xs i d) ≡ true)
  some_counted [] h = absurd (omega arith)
  some_counted (x ∷ xs) h =
      ⊎_elim
      (λ e. (0, omega arith, e))
      (λ e. let r = some_counted xs (omega (arith, sum_by-cons (λ y. cond (p y) 1 0) x xs, cond-false {A = ℕ} (p x) 1 0 e)) in (suc r.0, omega (arith, r.1), r.2))
      (cases_Bool (p x))
