-- Whether calls have the arguments, and locals the function, that they need.
use Rattle.std.specs.Prelude.{ℕ, zero, suc, ◌+◌, Bool, cond, not, ◌&&◌, ◌||◌, List, [], ◌∷◌, length, ℤ, pos, negsuc, ◌==◌, nat_lt, slice_index_or}
use Rattle.script.specs.declared.Function.{Function}
use Rattle.script.specs.declared.Node.{Node}
use Rattle.script.specs.Kinds.{call_kind, argument_kind, node_at, kind_at, one_of}
use Rattle.script.specs.Limits.{locals_of}
use Rattle.script.specs.Numbering.{number_of}
use Rattle.script.specs.Shape.{below}
use Rattle.script.specs.Uses.{child_uses}

-- how many arguments a list, or the call that it belongs to, has
unfoldable pub arguments_by : Node → (ℤ → ℕ) → ℕ
arguments_by x at = cond (x.kind == argument_kind) (1 + at x.b) (cond (x.kind == call_kind) (at x.b) 0)

abbrev pub arguments_of : List Node → ℕ → ℕ
arguments_of xs n = number_of arguments_by xs n

-- what stands past the last function
abbrev pub no_function : Function
no_function = record { parameters = 0; locals = 0; body = 0; entry = 0 }

abbrev pub function_at : List Function → ℕ → Function
function_at fs f = slice_index_or fs f no_function

-- how many parameters the function with that number has
abbrev pub parameters_of : List Function → ℤ → ℕ
parameters_of fs (pos f) = (function_at fs f).parameters
parameters_of fs (negsuc f) = 0

-- the node k in place of r, where r is its child
abbrev pub climbed : Node → ℕ → ℕ → ℕ
climbed x k r = cond (nat_lt 0 (child_uses x r)) k r

-- up from the node n through the first k nodes, each step to the node whose child it is
unfoldable pub climb : List Node → ℕ → ℕ → ℕ
climb xs n zero = n
climb xs n (suc k) = climbed (node_at xs k) k (climb xs n k)

-- the top of the tree that the node n is part of; a child has a smaller number than its parent
abbrev pub root_of : List Node → ℕ → ℕ
root_of xs n = climb xs n (length xs)

-- how many locals the function with that body has; none without one
abbrev pub locals_under : List Function → ℕ → ℕ
locals_under [] r = 0
locals_under (f ∷ fs) r = cond (f.body == r) (locals_of f) (locals_under fs r)

-- the kinds that name a local
abbrev pub names_local : ℕ → Bool
names_local k = one_of (1 ∷ 4 ∷ []) k

-- a local that its function lacks
abbrev pub local_missing : List Function → List Node → ℕ → Bool
local_missing fs xs n = names_local (kind_at xs n) && not (below (node_at xs n).a (locals_under fs (root_of xs n)))

-- a call with another number of arguments than the function has parameters
abbrev pub arguments_wrong : List Function → List Node → ℕ → Bool
arguments_wrong fs xs n = kind_at xs n == call_kind && not (arguments_of xs n == parameters_of fs (node_at xs n).a)

unfoldable pub out_of_scope : List Function → List Node → ℕ → Bool
out_of_scope fs xs n = local_missing fs xs n || arguments_wrong fs xs n
