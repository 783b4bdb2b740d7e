-- How the nesting of a node follows from that of its children.
use Rattle.std.proofs.Common.{◌≡◌, ℕ, ◌+◌, ◌≤◌, true, List, ℤ, nat_abs, Some, Option, sym, ap, ◌∙◌, arith}
use Rattle.std.proofs.lemmas.Bool.Decides.{nat_tests}
use Rattle.script.specs.declared.Node.{Node}
use Rattle.script.specs.declared.kinds.Sort.{Sort}
use Rattle.script.specs.declared.kinds.Sort.TheVariants.{Arguments}
use Rattle.script.specs.Kinds.{is_of}
use Rattle.script.specs.Nesting.{nesting_in, nesting_by, nesting_of}
use Rattle.script.specs.Numbering.{number_at, numbers_below}
use Rattle.script.specs.Shaped.{Child}
use Rattle.script.proofs.NumberingLaws.{number_of_child}

-- what the recursion says of the child in a field
pub child-nesting : (xs : List Node) (n : ℕ) (x : ℤ) (want : Option Sort) (s : Sort) (r i : ℕ) → want ≡ Some s → Child xs n x s → i ≡ nat_abs x → r ≡ nesting_of xs i → r ≤ i + 1 → (r ≡ nesting_in want x (number_at (numbers_below nesting_by xs n))) × (r ≤ n)
child-nesting xs n x want s r i w k e v l =
    let j : i ≡ k.0 = e ∙ ap nat_abs k.1 in
    let u = number_of_child nesting_by xs n x k.0 k.1 k.2 in
    (v ∙ ap (nesting_of xs) j ∙ sym u ∙ ap (λ o. nesting_in o x (number_at (numbers_below nesting_by xs n))) (sym w), omega (arith, j, l, k.2))

-- a list that is not an argument and a list is empty
pub empty_list : (k : ℕ) → is_of Arguments k ≡ true → (k ≡ 14 → ⊥) → k ≡ 13
empty_list k e h = grind (arith, nat_tests)
