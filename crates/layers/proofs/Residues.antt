-- Twelve bits as two's complement are the one number alike to a word that lies around 0.
use Rattle.std.proofs.Common.{◌≡◌, ℕ, suc, ◌*◌, ◌/◌, ◌<◌, ◌≤◌, ◌⊎◌, ℤ, pos, negsuc, ◌+ℤ◌, inl, inr, ⊎_elim, arith}
use Rattle.std.proofs.lemmas.Int.{ints}
use Rattle.std.proofs.lemmas.Nat.{div-add-mod', mod_below}
use Rattle.std.proofs.lemmas.Bool.{cases_lt, lt-ltb, le-ltb}
use Rattle.layers.specs.Layer.{low, twelve, Alike, TwelveWide, span}

-- the bits as a count, or, where the sign bit is set, 4,096 less
signed : (v : ℤ) → ((twelve v ≡ pos (low v)) × (low v < 2048)) ⊎ ((twelve v +ℤ pos span ≡ pos (low v)) × (2048 ≤ low v))
signed v =
    ⊎_elim
    (λ h. inl (simp (lt-ltb (low v) 2048 h), h))
    (λ h. inr (simp (le-ltb (low v) 2048 h) (omega (arith, ints)), h))
    (cases_lt (low v) 2048)

pub wide : (v : ℤ) → low v < span → TwelveWide (twelve v)
wide v h = ⊎_elim (λ s. (omega (arith, ints, s), omega (arith, ints, s))) (λ s. (omega (arith, ints, s), omega (arith, ints, s))) (signed v)

-- a word is its low bits and a multiple of 4,096
pub low_pos : (n : ℕ) → (low (pos n) < span) × (pos n ≡ pos (low (pos n)) +ℤ pos (n / span * span))
low_pos n = let d = div-add-mod' n span in let m = mod_below n span (omega arith) in (omega arith, omega (arith, ints))

pub low-neg : (n : ℕ) → (low (negsuc n) < span) × (pos (low (negsuc n)) ≡ negsuc n +ℤ pos (suc (n / span) * span))
low-neg n = let d = div-add-mod' n span in let m = mod_below n span (omega arith) in (omega arith, omega (arith, ints))

alike_pos : (n : ℕ) → Alike (pos n) (twelve (pos n))
alike_pos n =
    let l = low_pos n in
    ⊎_elim
    (λ s. (n / span, inl (omega (arith, ints, s))))
    (λ s. (suc (n / span), inl (omega (arith, ints, s))))
    (signed (pos n))

alike_neg : (n : ℕ) → Alike (negsuc n) (twelve (negsuc n))
alike_neg n =
    let l = low-neg n in
    ⊎_elim
    (λ s. (suc (n / span), inr (omega (arith, ints, s))))
    (λ s. (n / span, inr (omega (arith, ints, s))))
    (signed (negsuc n))

pub alike : (v : ℤ) → Alike v (twelve v)
alike (pos n) = alike_pos n
alike (negsuc n) = alike_neg n

pub low_below : (v : ℤ) → low v < span
low_below (pos n) = (low_pos n).0
low_below (negsuc n) = (low-neg n).0

-- two numbers that are alike and both lie around 0 are one
pub alone : (v w x : ℤ) → Alike v w → TwelveWide w → Alike v x → TwelveWide x → w ≡ x
alone v w x (k, inl a) p (j, inl b) q = omega (arith, ints, p, q)
alone v w x (k, inl a) p (j, inr b) q = omega (arith, ints, p, q)
alone v w x (k, inr a) p (j, inl b) q = omega (arith, ints, p, q)
alone v w x (k, inr a) p (j, inr b) q = omega (arith, ints, p, q)
