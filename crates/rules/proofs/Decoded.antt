-- A number that is none of theirs is no instruction's.
use Rattle.std.proofs.Common.{◌≡◌, ℕ, zero, suc, ◌≤◌, Bool, true, false, leb, List, [], ◌∷◌, length, ℤ, pos, negsuc, ◌≤ℤ◌, None, Option, refl, arith, leb-true, leb-false}
use Rattle.std.proofs.lemmas.Int.{ints}
use Rattle.rules.specs.declared.Instruction.{Instruction}
use Rattle.rules.specs.Rules.{listed, numbered, decode}

unlisted : (t : List (Option Instruction)) (n : ℕ) → length t ≤ n → listed t n ≡ None
unlisted [] n h = refl
unlisted (x ∷ t) zero h = absurd (omega arith)
unlisted (x ∷ t) (suc n) h = unlisted t n (omega arith)

unnumbered : (n : ℕ) (b : Bool) → leb n 25 ≡ b → (n ≤ 25 → n ≡ 23) → listed numbered n ≡ None
unnumbered n true e h = rw (h (leb-true n 25 e))
unnumbered n false e h = let l = leb-false n 25 e in unlisted numbered n (omega arith)

pub unnamed : (z : ℤ) → (pos 0 ≤ℤ z → z ≤ℤ pos 25 → z ≡ pos 23) → decode z ≡ None
unnamed (negsuc n) h = refl
unnamed (pos n) h = unnumbered n (leb n 25) refl (λ l. let q : pos n ≡ pos 23 = h (omega (arith, ints)) (omega (arith, ints)) in cc)
