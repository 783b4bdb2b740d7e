-- What `every` says of an element, and the library's word for it.
use Rattle.std.proofs.Common.{◌≡◌, ℕ, zero, suc, ◌<◌, Bool, true, ◌&&◌, List, [], ◌∷◌, length, get_or, refl, ap, arith}
use Rattle.std.specs.List.{list_all}
use Rattle.std.proofs.lemmas.Bool.{and_from, and_parts}
use Rattle.script.specs.Limits.{every}

module _ {X : Type 0} (p : X → Bool) where
  pub list_all_is_every : (xs : List X) → list_all p xs ≡ every p xs
  list_all_is_every [] = refl
  list_all_is_every (x ∷ xs) = ap (λ b. p x && b) (list_all_is_every xs)

  -- each element passes
  pub every_at : (xs : List X) → every p xs ≡ true → (i : ℕ) (d : X) → i < length xs → p (get_or xs i d) ≡ true
  every_at [] e i d h = absurd (omega arith)
  every_at (x ∷ xs) e zero d h = (and_parts (p x) (every p xs) e).0
  every_at (x ∷ xs) e (suc i) d h = every_at xs (and_parts (p x) (every p xs) e).1 i d (omega arith)

  -- where each element passes, `every` does
  pub every_from : (xs : List X) (d : X) → ((i : ℕ) → i < length xs → p (get_or xs i d) ≡ true) → every p xs ≡ true
  every_from [] d h = refl
  every_from (x ∷ xs) d h = and_from (p x) (every p xs) (h 0 (omega arith)) (every_from xs d (λ i l. h (suc i) (omega arith)))
