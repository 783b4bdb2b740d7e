-- How many children of a node are one node: at most one a field.
use Rattle.std.proofs.Common.{ℕ, ◌*◌, ◌≤◌, List, length, ℤ, Some, None, Option, arith}
use Rattle.std.proofs.ByRecursion.{All-from_get_or, sum_by_le}
use Rattle.std.proofs.lemmas.Bool.Decides.{nat_tests}
use Rattle.script.specs.declared.Node.{Node}
use Rattle.script.specs.declared.kinds.Sort.{Sort}
use Rattle.script.specs.Kinds.{no_node, want_a, want_b, want_c}
use Rattle.script.specs.Uses.{uses, child_uses, uses_as_child}

uses_once : (want : Option Sort) (x : ℤ) (n : ℕ) → uses want x n ≤ 1
uses_once None x n = omega arith
uses_once (Some s) x n = grind (arith, nat_tests)

child_uses_few : (x : Node) (n : ℕ) → child_uses x n ≤ 3
unfolding child_uses
child_uses_few x n = omega (arith, uses_once (want_a x.kind) x.a n, uses_once (want_b x.kind) x.b n, uses_once (want_c x.kind) x.c n)

pub uses_as_child_few : (xs : List Node) (n : ℕ) → uses_as_child xs n ≤ length xs * 3
uses_as_child_few xs n = sum_by_le (λ x. child_uses x n) 3 xs (All-from_get_or (λ x. child_uses x n ≤ 3) xs no_node (λ i h. child_uses_few _ n))
