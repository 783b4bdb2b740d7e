-- Whether a node's kind, numbers and children fit where they stand.
use Rattle.std.specs.Prelude.{ℕ, Bool, true, false, cond, not, ◌&&◌, ◌||◌, List, [], ◌∷◌, length, ℤ, pos, negsuc, Some, None, Option, ◌==◌, nat_le, nat_lt, slice_index}
use Rattle.script.specs.declared.Function.{Function}
use Rattle.script.specs.declared.Node.{Node}
use Rattle.script.specs.declared.kinds.Sort.{Sort}
use Rattle.script.specs.declared.kinds.Sort.TheVariants.{Statement}
use Rattle.script.specs.Kinds.{binary_kind, call_kind, last_kind, operators, node_at, kind_at, is_of, one_of, want_a, want_b, want_c}
use Rattle.script.specs.Uses.{uses_as_body}

-- a number from 0 up to, and not, n
abbrev pub below : ℤ → ℕ → Bool
below (pos m) n = nat_lt m n
below (negsuc m) n = false

-- whether a number is a node's of that sort
abbrev pub is_node_of : Sort → List Node → ℤ → Bool
is_node_of s xs (pos m) = is_of s (kind_at xs m)
is_node_of s xs (negsuc m) = false

-- a field of the node i: where a child is wanted, a smaller number, of that sort
abbrev pub child_fits : List Node → ℕ → ℤ → Option Sort → Bool
child_fits xs i x None = true
child_fits xs i x (Some s) = below x i && is_node_of s xs x

abbrev pub children_fit : List Node → ℕ → Node → Bool
children_fit xs i x = child_fits xs i x.a (want_a x.kind) && (child_fits xs i x.b (want_b x.kind) && child_fits xs i x.c (want_c x.kind))

-- the length of the global with that number
abbrev pub length_of : List ℕ → ℤ → ℕ
length_of gs (pos m) = slice_index gs m
length_of gs (negsuc m) = 0

-- the kinds that name a global, and those of them that name one word
abbrev pub names_global : ℕ → Bool
names_global k = one_of (2 ∷ 3 ∷ 5 ∷ 6 ∷ []) k

abbrev pub names_word : ℕ → Bool
names_word k = one_of (2 ∷ 5 ∷ []) k

-- the global that a node names
abbrev pub named_fits : List ℕ → Node → Bool
named_fits gs x = not (names_global x.kind) || (below x.a (length gs) && (not (names_word x.kind) || length_of gs x.a == 1))

-- the operator of a binary, and the function of a call
abbrev pub number_fits : ℕ → Node → Bool
number_fits functions x = cond (x.kind == binary_kind) (below x.c operators) (cond (x.kind == call_kind) (below x.a functions) true)

-- a body is a statement
abbrev pub body_fits : List Function → ℕ → ℕ → Bool
body_fits fs i k = uses_as_body fs i == 0 || is_of Statement k

abbrev pub fits : List Function → List ℕ → List Node → ℕ → Node → Bool
fits fs gs xs i x = nat_le x.kind last_kind && (children_fit xs i x && (named_fits gs x && (number_fits (length fs) x && body_fits fs i x.kind)))

-- a node whose kind, numbers or children do not fit, or a body that is no statement
unfoldable pub misshapen : List Function → List ℕ → List Node → ℕ → Bool
misshapen fs gs xs i = not (fits fs gs xs i (node_at xs i))
