-- Sums over the first numbers, each weighed by how often it is named.
use Rattle.std.proofs.Common.{◌≡◌, ℕ, zero, suc, ◌+◌, ◌*◌, ◌<◌, ◌≤◌, List, [], ◌∷◌, length, get_or, take, sum_by, sym, refl, ap, ◌∙◌, inl, inr, mul-le-mul_right, add-mul, one-mul, zero-mul, add-one, arith}
use Rattle.std.proofs.lemmas.List.{take_all}
use Rattle.std.proofs.lemmas.List.Sums.{sum_by-cons, sum_by_more}
use Rattle.std.proofs.lemmas.Bool.{cases_eq}
use Rattle.room.specs.Bound.{node_room}

-- f of the numbers below n, added up
abbrev pub up_to : (ℕ → ℕ) → ℕ → ℕ
up_to f zero = 0
up_to f (suc n) = up_to f n + f n

-- pointwise, over a list
pub sum_le : {X : Type 0} (f g : X → ℕ) (d : X) (xs : List X) → ((i : ℕ) → i < length xs → f (get_or xs i d) ≤ g (get_or xs i d)) → sum_by f xs ≤ sum_by g xs
sum_le f g d [] h = omega arith
sum_le f g d (x ∷ xs) h =
    let a = h 0 (omega arith) in
    let r = sum_le f g d xs (λ i l. h (suc i) (omega arith)) in
    omega (arith, a, r, sum_by-cons f x xs, sum_by-cons g x xs)

module _ (g : ℕ → ℕ) where
  -- the numbers below n, each as often as c says
  abbrev pub weigh : (ℕ → ℕ) → ℕ → ℕ
  weigh c n = up_to (λ m. c m * g m) n

  weigh_none : (n : ℕ) → weigh (λ m. 0) n ≡ 0
  weigh_none zero = refl
  weigh_none (suc n) = omega (arith, weigh_none n, zero-mul (g n))

  pub weigh_same : (c d : ℕ → ℕ) (n : ℕ) → ((m : ℕ) → c m ≡ d m) → weigh c n ≡ weigh d n
  weigh_same c d zero h = refl
  weigh_same c d (suc n) h = omega (arith, weigh_same c d n h, ap (λ (k : ℕ). k * g n) (h n))

  pub weigh_add : (c d : ℕ → ℕ) (n : ℕ) → weigh (λ m. c m + d m) n ≡ weigh c n + weigh d n
  weigh_add c d zero = refl
  weigh_add c d (suc n) = omega (arith, weigh_add c d n, add-mul (c n) (d n) (g n))

  -- a number that is named counts
  last_has : (c : ℕ → ℕ) (k n : ℕ) → 1 ≤ c k → k ≡ n → g k ≤ weigh c (suc n)
  last_has c k n l e =
      let b : 1 ≤ c n = omega (arith, l, ap c e) in
      omega (arith, ap g e, mul-le-mul_right (g n) b, one-mul (g n))

  pub weigh_has : (c : ℕ → ℕ) (k n : ℕ) → k < n → 1 ≤ c k → g k ≤ weigh c n
  weigh_has c k zero h l = absurd (omega arith)
  weigh_has c k (suc n) h l = elim (cases_eq k n) [
    | inl e ↦ last_has c k n l e
    | inr e ↦ (let r = weigh_has c k n (omega (arith, e, h)) l in omega (arith, r))
  ]

  pub weigh_sum : {X : Type 0} (c : X → ℕ → ℕ) (xs : List X) (n : ℕ) → weigh (λ m. sum_by (λ x. c x m) xs) n ≡ sum_by (λ x. weigh (c x) n) xs
  weigh_sum c [] n = weigh_none n
  weigh_sum c (x ∷ xs) n =
      weigh_same _ (λ m. c x m + sum_by (λ y. c y m) xs) n (λ m. sum_by-cons (λ y. c y m) x xs)
      ∙ weigh_add (c x) (λ m. sum_by (λ y. c y m) xs) n
      ∙ ap (λ (k : ℕ). weigh (c x) n + k) (weigh_sum c xs n)
      ∙ sym (sum_by-cons (λ y. weigh (c y) n) x xs)

  -- where each is named once, all together are the sum
  once : (c : ℕ → ℕ) (n : ℕ) → ((m : ℕ) → m < n → c m ≡ 1) → weigh c n ≡ up_to g n
  once c zero h = refl
  once c (suc n) h = omega (arith, once c n (λ m l. h m (omega arith)), ap (λ (j : ℕ). j * g n) (h n (omega arith)), one-mul (g n))

  pub weigh_once : (c d : ℕ → ℕ) (n : ℕ) → ((m : ℕ) → m < n → c m + d m ≡ 1) → weigh c n + weigh d n ≡ up_to g n
  weigh_once c d n h = sym (weigh_add c d n) ∙ once (λ m. c m + d m) n h

  -- along a table, each with its own part
  module _ {X : Type 0} (f : X → ℕ) (d : X) (xs : List X) (h : (i : ℕ) → i < length xs → g i ≤ node_room + f (get_or xs i d)) where
    first : (n : ℕ) → n ≤ length xs → up_to g n ≤ node_room * n + sum_by f (take n xs)
    first zero l = omega arith
    first (suc n) l =
        let k : n < length xs = omega arith in
        omega (arith, first n (omega arith), h n k, sum_by_more f xs n d k, ap (λ (j : ℕ). sum_by f (take j xs)) (add-one n))

    pub up_to_table : up_to g (length xs) ≤ node_room * length xs + sum_by f xs
    up_to_table = omega (arith, first (length xs) (omega arith), ap (sum_by f) (take_all (length xs) xs (omega arith)))
