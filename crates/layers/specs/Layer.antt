-- What the twelve-bit layer makes of a board's meaning.
use Rattle.std.specs.Prelude.{◌≡◌, ℕ, ◌*◌, cond, ◌⊎◌, map, ℤ, pos, negsuc, ◌+ℤ◌, ◌-ℤ◌, ◌≤ℤ◌, ◌<ℤ◌, nat_lt, unsigned_abs}
use Rattle.std.specs.Int.{int_rem_euclid}
use Rattle.board.specs.Meaning.{Means}

-- how many values twelve bits have
abbrev pub span : ℕ
span = 4096

-- the low twelve bits of a word, as a count
abbrev pub low : ℤ → ℕ
low v = unsigned_abs (int_rem_euclid v (pos span))

-- the same bits as two's complement: from 2,048 on, where the sign bit is set, they stand for 4,096 less
abbrev pub twelve : ℤ → ℤ
twelve v = cond (nat_lt (low v) 2048) (pos (low v)) (pos (low v) -ℤ pos span)

-- a board under the layer
abbrev pub lowered : Means → Means
lowered m = record { inputs = map twelve m.inputs; readings = m.readings; page = m.page }

-- two numbers that differ by a multiple of 4,096
abbrev pub Alike : ℤ → ℤ → Type 0
Alike v w = (k : ℕ) × ((v ≡ w +ℤ pos (k * span)) ⊎ (w ≡ v +ℤ pos (k * span)))

-- what twelve bits of two's complement hold
abbrev pub TwelveWide : ℤ → Type 0
TwelveWide w = (negsuc 2047 ≤ℤ w) × (w <ℤ pos 2048)

-- the twelve bits of a word are alike to it and twelve wide, and nothing else is both
abbrev pub Residue : Type 0
Residue = (v : ℤ) → Alike v (twelve v) × TwelveWide (twelve v) × ((w : ℤ) → Alike v w → TwelveWide w → w ≡ twelve v)
