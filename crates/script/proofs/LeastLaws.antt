-- A loop that looks for the least number with a property, and what it says when there is none.
use Rattle.std.proofs.Common.{◌≡◌, ℕ, zero, suc, ◌+◌, ◌<◌, ◌≤◌, Bool, true, false, cond, Some, None, Option, sym, refl, ap, ◌∙◌, add-one, arith}
use Rattle.std.proofs.lemmas.Option.{none-some}
use native.Mathlib.Decide.{le_ind}
use Rattle.script.specs.Least.{or_else, least_below}

-- before the first
pub least_none : (p : ℕ → Bool) → least_below p 0 ≡ None
unfolding least_below
least_none p = refl

-- one number more without it
pub least_more : (p : ℕ → Bool) (i : ℕ) → least_below p i ≡ None → p i ≡ false → least_below p (i + 1) ≡ None
unfolding least_below
least_more p i e h = rw (add-one, e, h)

least_stays : (p : ℕ → Bool) (i k : ℕ) → least_below p i ≡ Some k → (n : ℕ) → i ≤ n → least_below p n ≡ Some k
unfolding least_below
least_stays p i k e n h = le_ind (λ m. least_below p m ≡ Some k) e (λ m l q. ap (λ o. or_else o (cond (p m) (Some m) None)) q) n h

-- the first number that has it is the least of all
pub least_found : (p : ℕ → Bool) (i n : ℕ) → least_below p i ≡ None → p i ≡ true → i < n → least_below p n ≡ Some i
unfolding least_below
least_found p i n e h l = least_stays p (suc i) i (rw (e, h)) n l

-- where there is none, no number below n has it
pub least_clear : (p : ℕ → Bool) (n : ℕ) → least_below p n ≡ None → (i : ℕ) → i < n → p i ≡ false
least_clear p n e i h = go (p i) refl (least_below p i) refl
  where
    go : (b : Bool) → p i ≡ b → (o : Option ℕ) → least_below p i ≡ o → p i ≡ false
    go false q o f = q
    go true q None f = absurd (none-some i (sym e ∙ least_found p i n f q h))
    go true q (Some k) f = absurd (none-some k (sym e ∙ least_stays p i k f n (omega arith)))

-- where no number below n has it, there is none
pub least_absent : (p : ℕ → Bool) (n : ℕ) → ((i : ℕ) → i < n → p i ≡ false) → least_below p n ≡ None
unfolding least_below
least_absent p zero h = refl
least_absent p (suc n) h = let e = least_absent p n (λ i l. h i (omega arith)) in let q = h n (omega arith) in rw (e, q)
