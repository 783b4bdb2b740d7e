-- The kinds of node: of what sort each is, and which of its fields are children, of which sort.
use Rattle.std.specs.Prelude.{ℕ, Bool, false, cond, ◌&&◌, ◌||◌, List, [], ◌∷◌, pos, Some, None, Option, ◌==◌, nat_le, slice_index_or}
use Rattle.script.specs.declared.Node.{Node}
use Rattle.script.specs.declared.kinds.Sort.{Sort}
use Rattle.script.specs.declared.kinds.Sort.TheVariants.{Expression, Arguments, Statement}

-- what stands past the last node
abbrev pub no_node : Node
no_node = record { kind = 0; a = pos 0; b = pos 0; c = pos 0 }

abbrev pub node_at : List Node → ℕ → Node
node_at xs n = slice_index_or xs n no_node

abbrev pub kind_at : List Node → ℕ → ℕ
kind_at xs n = (node_at xs n).kind

-- Expressions: 0 constant, 1 local, 2 global, 3 element, 4 set local, 5 set global, 6 set element, 7 not, 8 print, 9 binary, 10 and, 11 or, 12 call.
-- Lists: 13 no argument, 14 an argument and a list. Statements: 15 nothing, 16 sequence, 17 expression, 18 if, 19 while, 20 return.
abbrev pub binary_kind : ℕ
binary_kind = 9

abbrev pub call_kind : ℕ
call_kind = 12

abbrev pub argument_kind : ℕ
argument_kind = 14

abbrev pub last_kind : ℕ
last_kind = 20

-- how many operators there are
abbrev pub operators : ℕ
operators = 11

-- the kinds of each sort
abbrev pub is_of : Sort → ℕ → Bool
is_of Expression k = nat_le k 12
is_of Arguments k = nat_le 13 k && nat_le k 14
is_of Statement k = nat_le 15 k && nat_le k 20

abbrev pub one_of : List ℕ → ℕ → Bool
one_of [] k = false
one_of (x ∷ xs) k = k == x || one_of xs k

-- the sort of child that each field holds, if it holds one
abbrev pub want_a : ℕ → Option Sort
want_a k = cond (one_of (7 ∷ 8 ∷ 9 ∷ 10 ∷ 11 ∷ 14 ∷ 17 ∷ 18 ∷ 19 ∷ 20 ∷ []) k) (Some Expression) (cond (k == 16) (Some Statement) None)

abbrev pub want_b : ℕ → Option Sort
want_b k = cond (one_of (3 ∷ 4 ∷ 5 ∷ 6 ∷ 9 ∷ 10 ∷ 11 ∷ []) k) (Some Expression) (cond (one_of (12 ∷ 14 ∷ []) k) (Some Arguments) (cond (one_of (16 ∷ 18 ∷ 19 ∷ []) k) (Some Statement) None))

abbrev pub want_c : ℕ → Option Sort
want_c k = cond (k == 6) (Some Expression) (cond (k == 18) (Some Statement) None)
