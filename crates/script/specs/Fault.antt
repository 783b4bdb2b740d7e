-- Which tables are refused, for what reason and at which node.
use Rattle.std.specs.Prelude.{ℕ, cond, List, length, Some, None, Ok, Err, Option, Result}
use Rattle.answer.specs.Numbers.{refused, refused_at}
use Rattle.answer.specs.declared.Reason.{Reason}
use Rattle.answer.specs.declared.Reason.TheVariants.{Limits, Shape, Uses, Scope, Nesting}
use Rattle.answer.specs.declared.Refusal.{Refusal}
use Rattle.script.specs.declared.Function.{Function}
use Rattle.script.specs.declared.Node.{Node}
use Rattle.script.specs.Limits.{within_limits}
use Rattle.script.specs.Least.{or_else, least_below}
use Rattle.script.specs.Nesting.{too_deep}
use Rattle.script.specs.Scope.{out_of_scope}
use Rattle.script.specs.Shape.{misshapen}
use Rattle.script.specs.Uses.{misused}

-- a refusal at the node, where there is one
abbrev pub fault_at : Reason → Option ℕ → Option Refusal
fault_at why None = None
fault_at why (Some n) = Some (refused_at why n)

-- what a call answers that is refused for a fault
abbrev pub answer_of : Option Refusal → Result (Unit {0}) Refusal
answer_of None = Ok tt
answer_of (Some why) = Err why

abbrev pub limits_fault : List Function → List ℕ → List Node → Option Refusal
limits_fault fs gs xs = cond (within_limits fs gs xs) None (Some (refused Limits))

abbrev pub shape_fault : List Function → List ℕ → List Node → Option Refusal
shape_fault fs gs xs = fault_at Shape (least_below (misshapen fs gs xs) (length xs))

abbrev pub uses_fault : List Function → List Node → Option Refusal
uses_fault fs xs = fault_at Uses (least_below (misused fs xs) (length xs))

abbrev pub scope_fault : List Function → List Node → Option Refusal
scope_fault fs xs = fault_at Scope (least_below (out_of_scope fs xs) (length xs))

abbrev pub nesting_fault : List Node → Option Refusal
nesting_fault xs = fault_at Nesting (least_below (too_deep xs) (length xs))

-- what is wrong with the nodes, each class tried over all of them before the next
unfoldable pub nodes_fault : List Function → List ℕ → List Node → Option Refusal
nodes_fault fs gs xs = or_else (shape_fault fs gs xs) (or_else (uses_fault fs xs) (or_else (scope_fault fs xs) (nesting_fault xs)))

-- what is wrong with the tables, if anything
abbrev pub fault : List Function → List ℕ → List Node → Option Refusal
fault fs gs xs = or_else (limits_fault fs gs xs) (nodes_fault fs gs xs)
