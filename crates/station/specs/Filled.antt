-- What an accepted load fills in.
use Rattle.std.specs.Prelude.{◌≡◌, ℕ, ◌<◌, min, List, length, slice_index}
use Rattle.answer.specs.Numbers.{no_place}
use Rattle.script.specs.declared.Function.{Function}
use Rattle.script.specs.Scope.{function_at}

-- a number in 16 bits
abbrev pub narrowed : ℕ → ℕ
narrowed n = min n no_place

-- the function with another entry position
abbrev pub entered : Function → ℕ → Function
entered f e = record { parameters = f.parameters; locals = f.locals; body = f.body; entry = e }

-- each function has its entry position, and nothing else of it has changed
pub record Filled (entries : List ℕ) (was is : List Function) : Type 0 where
  pub long : length is ≡ length was
  pub each : (f : ℕ) → f < length was → function_at is f ≡ entered (function_at was f) (slice_index entries f)
