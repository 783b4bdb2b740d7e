-- How deep expressions and lists of arguments nest.
use Rattle.std.specs.Prelude.{ℕ, ◌+◌, max, Bool, ◌&&◌, ◌||◌, List, ℤ, Some, None, Option, nat_lt}
use Rattle.script.specs.declared.Node.{Node}
use Rattle.script.specs.declared.kinds.Sort.{Sort}
use Rattle.script.specs.declared.kinds.Sort.TheVariants.{Expression, Arguments}
use Rattle.script.specs.Kinds.{kind_at, is_of, want_a, want_b, want_c}
use Rattle.script.specs.Limits.{max_nesting}
use Rattle.script.specs.Numbering.{number_of}

-- how deep the child in a field nests, 0 where the field holds none
abbrev pub nesting_in : Option Sort → ℤ → (ℤ → ℕ) → ℕ
nesting_in None x at = 0
nesting_in (Some s) x at = at x

-- 1 without children, else one more than the deepest child
unfoldable pub nesting_by : Node → (ℤ → ℕ) → ℕ
nesting_by x at = 1 + max (nesting_in (want_a x.kind) x.a at) (max (nesting_in (want_b x.kind) x.b at) (nesting_in (want_c x.kind) x.c at))

abbrev pub nesting_of : List Node → ℕ → ℕ
nesting_of xs n = number_of nesting_by xs n

-- an expression or a list that nests deeper than allowed
unfoldable pub too_deep : List Node → ℕ → Bool
too_deep xs n = (is_of Expression (kind_at xs n) || is_of Arguments (kind_at xs n)) && nat_lt max_nesting (nesting_of xs n)
