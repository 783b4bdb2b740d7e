-- Lists of words.
use Rattle.std.proofs.Common.{ℕ, suc, ◌<◌, List, [], ◌∷◌, length, get_or, ℤ, pos, arith, w32, SFits}
use Rattle.symbolic.specs.Proper.{Fit}

pub fit_each : (xs : List ℤ) → ((k : ℕ) → k < length xs → SFits w32 (get_or xs k (pos 0))) → Fit xs
fit_each [] each = tt
fit_each (x ∷ xs) each = (each 0 (omega arith), fit_each xs (λ k h. each (suc k) (omega arith)))
