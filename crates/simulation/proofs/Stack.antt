-- Words on the stack: how many there are, and what stands at an address once words lie above it.
use Rattle.std.proofs.Common.{◌≡◌, ℕ, zero, suc, ◌+◌, ◌<◌, List, [], ◌∷◌, ◌++◌, length, get_or, set, replicate, ℤ, pos, sym, refl, ap, ◌∙◌, arith, length-append, eq-eqb, ne_eqb}
use Rattle.symbolic.specs.Proper.{Fit}
use Rattle.symbolic.specs.Symbolic.{Fits, onto, fetch, store}
use Rattle.simulation.proofs.Words.{fits_zero}

pub fit_get_d : (l : List ℤ) (k : ℕ) → Fit l → Fits (get_or l k (pos 0))
fit_get_d [] k h = fits_zero
fit_get_d (x ∷ l) zero h = h.0
fit_get_d (x ∷ l) (suc k) h = fit_get_d l k h.1

pub fit_set : (l : List ℤ) (k : ℕ) (v : ℤ) → Fits v → Fit l → Fit (set l k v)
fit_set [] k v f h = tt
fit_set (x ∷ l) zero v f h = (f, h.1)
fit_set (x ∷ l) (suc k) v f h = (h.0, fit_set l k v f h.1)

pub fit_append : (l m : List ℤ) → Fit l → Fit m → Fit (l ++ m)
fit_append [] m h g = g
fit_append (x ∷ l) m h g = (h.0, fit_append l m h.1 g)

pub fit_zeros : (k : ℕ) → Fit (replicate k (pos 0))
fit_zeros zero = tt
fit_zeros (suc k) = (fits_zero, fit_zeros k)

pub len_onto : (L S : List ℤ) → length (onto L S) ≡ length L + length S
len_onto [] S = omega arith
len_onto (v ∷ L) S = let h = len_onto L (v ∷ S) in omega arith

fetch_there : (x : ℤ) (S : List ℤ) (a : ℕ) → a < length S → fetch (x ∷ S) a ≡ fetch S a
unfolding fetch
fetch_there x S a h = rw (ne_eqb a (length S) (λ e. omega arith), fetch)

fetch-here : (x : ℤ) (S : List ℤ) (a : ℕ) → a ≡ length S → fetch (x ∷ S) a ≡ x
unfolding fetch
fetch-here x S a h = rw (eq-eqb a (length S) h, fetch)

store_there : (x : ℤ) (S : List ℤ) (a : ℕ) (v : ℤ) → a < length S → store (x ∷ S) a v ≡ x ∷ store S a v
unfolding store
store_there x S a v h = rw (ne_eqb a (length S) (λ e. omega arith), store)

store-here : (x : ℤ) (S : List ℤ) (a : ℕ) (v : ℤ) → a ≡ length S → store (x ∷ S) a v ≡ v ∷ S
unfolding store
store-here x S a v h = rw (eq-eqb a (length S) h, store)

pub fetch_over : (T S : List ℤ) (a : ℕ) → a < length S → fetch (T ++ S) a ≡ fetch S a
fetch_over [] S a h = refl
fetch_over (x ∷ T) S a h = fetch_there x (T ++ S) a (omega (arith, length-append T S)) ∙ fetch_over T S a h

pub store_over : (T S : List ℤ) (a : ℕ) (v : ℤ) → a < length S → store (T ++ S) a v ≡ T ++ store S a v
store_over [] S a v h = refl
store_over (x ∷ T) S a v h = store_there x (T ++ S) a v (omega (arith, length-append T S)) ∙ ap (λ l. x ∷ l) (store_over T S a v h)

fetch-low : (L S : List ℤ) (a : ℕ) → a < length S → fetch (onto L S) a ≡ fetch S a
fetch-low [] S a h = refl
fetch-low (x ∷ L) S a h = fetch-low L (x ∷ S) a (omega arith) ∙ fetch_there x S a h

store_low : (L S : List ℤ) (a : ℕ) (v : ℤ) → a < length S → store (onto L S) a v ≡ onto L (store S a v)
store_low [] S a v h = refl
store_low (x ∷ L) S a v h = store_low L (x ∷ S) a v (omega arith) ∙ ap (onto L) (store_there x S a v h)

pub fetch-local : (L S : List ℤ) (k a : ℕ) → a ≡ length S + k → k < length L → fetch (onto L S) a ≡ get_or L k (pos 0)
fetch-local [] S k a e h = absurd (omega arith)
fetch-local (x ∷ L) S zero a e h = fetch-low L (x ∷ S) a (omega arith) ∙ fetch-here x S a (omega arith)
fetch-local (x ∷ L) S (suc k) a e h = fetch-local L (x ∷ S) k a (omega arith) (omega arith)

pub store-local : (L S : List ℤ) (k a : ℕ) (v : ℤ) → a ≡ length S + k → k < length L → store (onto L S) a v ≡ onto (set L k v) S
store-local [] S k a v e h = absurd (omega arith)
store-local (x ∷ L) S zero a v e h = store_low L (x ∷ S) a v (omega arith) ∙ ap (onto L) (store-here x S a v (omega arith))
store-local (x ∷ L) S (suc k) a v e h = store-local L (x ∷ S) k a v (omega arith) (omega arith)

pub onto-append : (L M S : List ℤ) → onto (L ++ M) S ≡ onto M (onto L S)
onto-append [] M S = refl
onto-append (x ∷ L) M S = onto-append L M (x ∷ S)

pub onto_over : (L M X : List ℤ) → onto L (M ++ X) ≡ onto L M ++ X
onto_over [] M X = refl
onto_over (v ∷ L) M X = onto_over L (v ∷ M) X

pub stack_assoc : (T L M X : List ℤ) → T ++ onto L (M ++ X) ≡ (T ++ onto L M) ++ X
stack_assoc [] L M X = onto_over L M X
stack_assoc (x ∷ T) L M X = ap (λ l. x ∷ l) (stack_assoc T L M X)

-- a global, at the bottom
pub fetch-global : (T L M G : List ℤ) (a : ℕ) → a < length G → fetch (T ++ onto L (M ++ onto G [])) a ≡ get_or G a (pos 0)
fetch-global T L M G a h =
    let b = len_onto G [] in
    ap (λ l. fetch l a) (stack_assoc T L M (onto G [])) ∙ (fetch_over (T ++ onto L M) (onto G []) a (omega arith) ∙ fetch-local G [] a a (omega arith) h)

pub store-global : (T L M G : List ℤ) (a : ℕ) (v : ℤ) → a < length G → store (T ++ onto L (M ++ onto G [])) a v ≡ T ++ onto L (M ++ onto (set G a v) [])
store-global T L M G a v h =
    let b = len_onto G [] in
    ap (λ l. store l a v) (stack_assoc T L M (onto G [])) ∙ (store_over (T ++ onto L M) (onto G []) a v (omega arith)
    ∙ (ap (λ l. (T ++ onto L M) ++ l) (store-local G [] a a v (omega arith) h) ∙ sym (stack_assoc T L M (onto (set G a v) []))))
