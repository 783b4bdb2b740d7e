-- Numbers taken over in 16 bits.
use Rattle.std.proofs.Common.{◌≡◌, ℕ, ◌<◌, ◌≤◌, List, map, length, get_or, sym, ap, ◌∙◌, arith}
use Rattle.std.proofs.lemmas.List.{length-map, get_or-map, ext_get_or}
use Rattle.script.specs.declared.Function.{Function}
use Rattle.script.specs.Scope.{function_at}
use Rattle.station.specs.Filled.{narrowed, entered, Filled}

pub all_narrowed : (to from : List ℕ) → length to ≡ length from → ((k : ℕ) → k < length to → get_or to k 0 ≡ narrowed (get_or from k 0)) → to ≡ map narrowed from
all_narrowed to from long each =
    ext_get_or 0 to (map narrowed from) (long ∙ sym (length-map from narrowed)) (λ k h. each k h ∙ sym (get_or-map narrowed from k 0 0 (omega arith)))

pub filled_narrowed : (entries : List ℕ) (was is : List Function) → length is ≡ length was → length was ≤ length entries
    → ((k : ℕ) → k < length was → function_at is k ≡ entered (function_at was k) (narrowed (get_or entries k 0))) → Filled (map narrowed entries) was is
filled_narrowed entries was is long few each =
    record { long = long; each = λ f h. each f h ∙ ap (entered (function_at was f)) (sym (get_or-map narrowed entries f 0 0 (omega arith))) }
