-- What a call leaves of the stack.
use Rattle.std.specs.Prelude.{ℕ, ◌≤◌, ◌≡◌, List, ℤ, pos, get_or}

-- the words from the n-th on are as they were
abbrev pub Beyond : ℕ → List ℤ → List ℤ → Type 0
Beyond n was is = (k : ℕ) → n ≤ k → get_or is k (pos 0) ≡ get_or was k (pos 0)
