-- What a node whose shape was accepted can be relied on for.
use Rattle.std.specs.Prelude.{◌≡◌, ℕ, ◌<◌, ◌≤◌, true, List, length, ℤ, pos, Some, ◌≢◌}
use Rattle.script.specs.declared.Function.{Function}
use Rattle.script.specs.declared.Node.{Node}
use Rattle.script.specs.declared.kinds.Sort.{Sort}
use Rattle.script.specs.declared.kinds.Sort.TheVariants.{Statement}
use Rattle.script.specs.Kinds.{binary_kind, call_kind, last_kind, operators, node_at, kind_at, is_of, want_a, want_b, want_c}
use Rattle.script.specs.Shape.{names_global, names_word, length_of}
use Rattle.script.specs.Uses.{uses_as_body}

-- a number from 0 up to, and not, n
abbrev pub Number : ℤ → ℕ → Type 0
Number x n = (m : ℕ) × (x ≡ pos m) × (m < n)

-- a child below the node i, of that sort
abbrev pub Child : List Node → ℕ → ℤ → Sort → Type 0
Child xs i x s = (m : ℕ) × (x ≡ pos m) × (m < i) × (is_of s (kind_at xs m) ≡ true)

-- every child is below its parent and of the sort that is wanted there
pub record Children (xs : List Node) : Type 0 where
  pub in_a : (n : ℕ) → n < length xs → (s : Sort) → want_a (kind_at xs n) ≡ Some s → Child xs n (node_at xs n).a s
  pub in_b : (n : ℕ) → n < length xs → (s : Sort) → want_b (kind_at xs n) ≡ Some s → Child xs n (node_at xs n).b s
  pub in_c : (n : ℕ) → n < length xs → (s : Sort) → want_c (kind_at xs n) ≡ Some s → Child xs n (node_at xs n).c s

-- every call names a function
abbrev pub Callees : List Function → List Node → Type 0
Callees fs xs = (n : ℕ) → n < length xs → kind_at xs n ≡ call_kind → Number (node_at xs n).a (length fs)

-- kinds, children and numbers are what they have to be, and a body is a statement
pub record Shaped (fs : List Function) (gs : List ℕ) (xs : List Node) : Type 0 where
  pub kind : (n : ℕ) → n < length xs → kind_at xs n ≤ last_kind
  pub children : Children xs
  pub operator : (n : ℕ) → n < length xs → kind_at xs n ≡ binary_kind → Number (node_at xs n).c operators
  pub global : (n : ℕ) → n < length xs → names_global (kind_at xs n) ≡ true → Number (node_at xs n).a (length gs)
  pub word : (n : ℕ) → n < length xs → names_word (kind_at xs n) ≡ true → length_of gs (node_at xs n).a ≡ 1
  pub callees : Callees fs xs
  pub body : (n : ℕ) → n < length xs → (uses_as_body fs n ≢ 0) → is_of Statement (kind_at xs n) ≡ true
