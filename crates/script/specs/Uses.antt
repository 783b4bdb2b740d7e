-- How often a node is used, as a child or as a body.
use Rattle.std.specs.Prelude.{ℕ, ◌+◌, Bool, false, cond, not, List, ℤ, pos, negsuc, Some, None, sum_by, count_by, Option, ◌==◌, nat_eq}
use Rattle.script.specs.declared.Function.{Function}
use Rattle.script.specs.declared.Node.{Node}
use Rattle.script.specs.declared.kinds.Sort.{Sort}
use Rattle.script.specs.Kinds.{want_a, want_b, want_c}

-- whether a field is the number n
abbrev pub is_number : ℤ → ℕ → Bool
is_number (pos m) n = m == n
is_number (negsuc m) n = false

-- 1 where the field holds a child, and the child is the node n
abbrev pub uses : Option Sort → ℤ → ℕ → ℕ
uses None x n = 0
uses (Some s) x n = cond (is_number x n) 1 0

-- how many children of a node are the node n
unfoldable pub child_uses : Node → ℕ → ℕ
child_uses x n = uses (want_a x.kind) x.a n + uses (want_b x.kind) x.b n + uses (want_c x.kind) x.c n

-- how often the node n is a child
abbrev pub uses_as_child : List Node → ℕ → ℕ
uses_as_child xs n = sum_by (λ x. child_uses x n) xs

-- how often the node n is a body
abbrev pub uses_as_body : List Function → ℕ → ℕ
uses_as_body fs n = count_by (λ f. nat_eq f.body n) fs

-- a node that is not used exactly once
abbrev pub misused : List Function → List Node → ℕ → Bool
misused fs xs n = not (uses_as_child xs n + uses_as_body fs n == 1)
