-- The entries of a store: which one is on top, and how blocks of them move.
use Rattle.std.specs.Prelude.{ℕ, zero, suc, ◌+◌, ◌-◌, List, drop, None, Option, slice_set}
use Rattle.std.proofs.Math.Seq.{paste}
use Rattle.std.specs.List.{slice_get}

-- the entry on top, where the first `used` slots are in use
abbrev pub top_of : {T : Type 0} → List T → ℕ → Option T
top_of xs zero = None
top_of xs (suc n) = slice_get xs n

-- x and y put in under the top m of the entries in use
unfoldable pub opened : {T : Type 0} → List T → ℕ → ℕ → T → T → List T
opened xs used m x y = slice_set (slice_set (paste xs (used - m + 2) (drop (used - m) xs) m) (used - m) x) (used - m + 1) y

-- the top m of the entries in use moved down over the n below them
unfoldable pub closed : {T : Type 0} → List T → ℕ → ℕ → ℕ → List T
closed xs used m n = paste xs (used - m - n) (drop (used - m) xs) m
