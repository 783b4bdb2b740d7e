-- What is read from the words of symbolic code, at an address that counts from the bottom, once they are pushed or stored.
use Rattle.std.proofs.Common.{◌≡◌, ℕ, zero, suc, ◌+◌, ◌-◌, ◌<◌, Bool, true, false, eqb, List, [], ◌∷◌, length, get_or, ℤ, pos, sym, refl, ap, ◌∙◌, arith, eq-eqb, ne_eqb, eqb-true}
use borrow.Author.Tests.{eqb-false}
use Rattle.symbolic.specs.Symbolic.{onto, fetch, store}

pub fetch_top : (x : ℤ) (S : List ℤ) (a : ℕ) → a ≡ length S → fetch (x ∷ S) a ≡ x
unfolding fetch
fetch_top x S a h = rw (eq-eqb a (length S) h, fetch)

pub fetch_under : (x : ℤ) (S : List ℤ) (a : ℕ) → a < length S → fetch (x ∷ S) a ≡ fetch S a
unfolding fetch
fetch_under x S a h = rw (ne_eqb a (length S) (λ e. omega arith), fetch)

pub length-onto : (vs T : List ℤ) → length (onto vs T) ≡ length vs + length T
length-onto [] T = omega arith
length-onto (v ∷ vs) T = let h = length-onto vs (v ∷ T) in omega arith

-- below pushed words, and among them
pub fetch-below : (vs T : List ℤ) (a : ℕ) → a < length T → fetch (onto vs T) a ≡ fetch T a
fetch-below [] T a h = refl
fetch-below (x ∷ vs) T a h = fetch-below vs (x ∷ T) a (omega arith) ∙ fetch_under x T a h

pub fetch_pushed : (vs T : List ℤ) (k a : ℕ) → a ≡ length T + k → k < length vs → fetch (onto vs T) a ≡ get_or vs k (pos 0)
fetch_pushed [] T k a e h = absurd (omega arith)
fetch_pushed (x ∷ vs) T zero a e h = fetch-below vs (x ∷ T) a (omega arith) ∙ fetch_top x T a (omega arith)
fetch_pushed (x ∷ vs) T (suc k) a e h = fetch_pushed vs (x ∷ T) k a (omega arith) (omega arith)

pub length-store : (S : List ℤ) (a : ℕ) (v : ℤ) → length (store S a v) ≡ length S
unfolding store
length-store [] a v = refl
length-store (x ∷ S) a v = go (eqb a (length S)) (length-store S a v)
  where
    go : (b : Bool) → length (store S a v) ≡ length S → length {A = ℤ} (elim b [ true ↦ v ∷ S | false ↦ x ∷ store S a v ]) ≡ suc (length S)
    go true h = refl
    go false h = ap suc h

-- a store is read at its own address, and nowhere else
pub fetch_stored : (S : List ℤ) (a : ℕ) (v : ℤ) → a < length S → fetch (store S a v) a ≡ v
unfolding store
fetch_stored [] a v h = absurd (omega arith)
fetch_stored (x ∷ S) a v h = go (eqb a (length S)) refl (length-store S a v) (λ l. fetch_stored S a v l)
  where
    go : (b : Bool) → eqb a (length S) ≡ b → length (store S a v) ≡ length S → (a < length S → fetch (store S a v) a ≡ v)
        → fetch (elim b [ true ↦ v ∷ S | false ↦ x ∷ store S a v ]) a ≡ v
    go true e q r = fetch_top v S a (eqb-true a (length S) e)
    go false e q r = let z : (a ≡ length S → ⊥) = eqb-false a (length S) e in fetch_under x (store S a v) a (omega arith) ∙ r (omega arith)

pub fetch_apart : (S : List ℤ) (a b : ℕ) (v : ℤ) → (b ≡ a → ⊥) → b < length S → fetch (store S a v) b ≡ fetch S b
unfolding store
fetch_apart [] a b v n h = absurd (omega arith)
fetch_apart (x ∷ S) a b v n h = go (eqb a (length S)) refl (length-store S a v) (λ l. fetch_apart S a b v n l)
  where
    split : (c : Bool) → eqb b (length S) ≡ c → length (store S a v) ≡ length S → (b < length S → fetch (store S a v) b ≡ fetch S b)
        → fetch (x ∷ store S a v) b ≡ fetch (x ∷ S) b
    split true f q r = let z = eqb-true b (length S) f in fetch_top x (store S a v) b (omega arith) ∙ sym (fetch_top x S b (omega arith))
    split false f q r =
        let z : (b ≡ length S → ⊥) = eqb-false b (length S) f in
        fetch_under x (store S a v) b (omega arith) ∙ (r (omega arith) ∙ sym (fetch_under x S b (omega arith)))

    go : (c : Bool) → eqb a (length S) ≡ c → length (store S a v) ≡ length S → (b < length S → fetch (store S a v) b ≡ fetch S b)
        → fetch (elim c [ true ↦ v ∷ S | false ↦ x ∷ store S a v ]) b ≡ fetch (x ∷ S) b
    go true e q r = let z = eqb-true a (length S) e in let l : b < length S = omega arith in fetch_under v S b l ∙ sym (fetch_under x S b l)
    go false e q r = split (eqb b (length S)) refl q r
