-- How children nest below their parent, and cases by the number of a kind.
use Rattle.std.proofs.Common.{◌≡◌, ℕ, zero, suc, ◌+◌, ◌-◌, ◌<◌, ◌≤◌, max, Bool, true, false, ◌&&◌, leb, List, ℤ, refl, ap, ◌∙◌, arith}
use Rattle.std.proofs.lemmas.Bool.{and_parts, leb-true}
use Rattle.std.proofs.lemmas.Bool.Decides.{nat_tests}
use Rattle.script.specs.declared.Node.{Node}
use Rattle.script.specs.Kinds.{node_at, kind_at, want_a, want_b, want_c}
use Rattle.script.specs.Nesting.{nesting_in, nesting_by, nesting_of}
use Rattle.script.specs.Numbering.{number_at, numbers_below}
use Rattle.script.specs.Sound.{ChildOf, by_a, by_b, by_c}
use Rattle.script.proofs.NumberingLaws.{number_of_child}

-- a case for each of the first n numbers
abbrev pub Cases : (ℕ → Type 0) → ℕ → Type 0
Cases P zero = Unit {0}
Cases P (suc n) = P 0 × Cases (λ j. P (suc j)) n

pub pick : (n k : ℕ) (P : ℕ → Type 0) → k < n → Cases P n → P k
pick zero k P h t = absurd (omega arith)
pick (suc n) zero P h t = t.0
pick (suc n) (suc k) P h t = pick n k (λ j. P (suc j)) (omega arith) t.1

-- the kinds of each sort, as the check has them
abbrev pub is_expression : ℕ → Bool
is_expression k = leb k 12

abbrev pub is_list : ℕ → Bool
is_list k = leb 13 k && leb k 14

abbrev pub is_statement : ℕ → Bool
is_statement k = leb 15 k && leb k 20

pub pick_expression : (k : ℕ) → is_expression k ≡ true → (G : Type 0) → Cases (λ j. k ≡ j → G) 13 → G
pick_expression k e G cases = pick 13 k (λ j. k ≡ j → G) (omega (arith, leb-true k 12 e)) cases refl

pub pick_statement : (k : ℕ) → is_statement k ≡ true → (G : Type 0) → Cases (λ j. k ≡ 15 + j → G) 6 → G
pick_statement k e G cases =
    let p = and_parts (leb 15 k) _ e in
    let first = leb-true 15 k p.0 in
    pick 6 (k - 15) (λ j. k ≡ 15 + j → G) (omega (arith, first, leb-true k 20 p.1)) cases (omega (arith, first))

pub no_statement : (k : ℕ) → is_expression k ≡ true → is_statement k ≡ false
no_statement k e = grind (arith, nat_tests)

module _ (xs : List Node) (n : ℕ) where
  -- the numbers of the nodes below n
  abbrev at : ℤ → ℕ
  at = number_at (numbers_below nesting_by xs n)

  abbrev in_a : ℕ
  in_a = nesting_in (want_a (kind_at xs n)) (node_at xs n).a at

  abbrev in_b : ℕ
  in_b = nesting_in (want_b (kind_at xs n)) (node_at xs n).b at

  abbrev in_c : ℕ
  in_c = nesting_in (want_c (kind_at xs n)) (node_at xs n).c at

  nesting_is : nesting_of xs n ≡ 1 + max in_a (max in_b in_c)
  unfolding nesting_by
  nesting_is = refl

  pub nests : 1 ≤ nesting_of xs n
  nests = omega (arith, nesting_is)

  -- a child nests less deep than its parent
  pub deeper : (m : ℕ) → ChildOf xs n m → m < n → nesting_of xs m < nesting_of xs n
  deeper m (by_a s e q) l =
      let z : in_a ≡ nesting_of xs m = ap (λ o. nesting_in o (node_at xs n).a at) e ∙ number_of_child nesting_by xs n (node_at xs n).a m q l in
      omega (arith, nesting_is, z)
  deeper m (by_b s e q) l =
      let z : in_b ≡ nesting_of xs m = ap (λ o. nesting_in o (node_at xs n).b at) e ∙ number_of_child nesting_by xs n (node_at xs n).b m q l in
      omega (arith, nesting_is, z)
  deeper m (by_c s e q) l =
      let z : in_c ≡ nesting_of xs m = ap (λ o. nesting_in o (node_at xs n).c at) e ∙ number_of_child nesting_by xs n (node_at xs n).c m q l in
      omega (arith, nesting_is, z)
