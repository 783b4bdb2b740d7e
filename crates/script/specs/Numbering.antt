-- A number for each node, worked out from the node and from the numbers of those before it.
use Rattle.std.specs.Prelude.{ℕ, zero, suc, List, [], ◌∷◌, ◌++◌, ℤ, pos, negsuc, slice_index}
use Rattle.script.specs.declared.Node.{Node}
use Rattle.script.specs.Kinds.{node_at}

-- the number of the node that a field names; 0 where it has none yet
abbrev pub number_at : List ℕ → ℤ → ℕ
number_at ns (pos m) = slice_index ns m
number_at ns (negsuc m) = 0

-- the numbers of the first n nodes
unfoldable pub numbers_below : (Node → (ℤ → ℕ) → ℕ) → List Node → ℕ → List ℕ
numbers_below by xs zero = []
numbers_below by xs (suc n) = numbers_below by xs n ++ (by (node_at xs n) (number_at (numbers_below by xs n)) ∷ [])

-- the number of the node n
abbrev pub number_of : (Node → (ℤ → ℕ) → ℕ) → List Node → ℕ → ℕ
number_of by xs n = by (node_at xs n) (number_at (numbers_below by xs n))
