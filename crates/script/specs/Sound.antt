-- What accepted tables can be relied on for.
use Rattle.std.specs.Prelude.{◌≡◌, ℕ, ◌+◌, ◌<◌, ◌≤◌, true, false, List, length, pos, Some, None, sum, slice_index}
use Rattle.script.specs.declared.Function.{Function}
use Rattle.script.specs.declared.Node.{Node}
use Rattle.script.specs.declared.kinds.Sort.{Sort}
use Rattle.script.specs.declared.kinds.Sort.TheVariants.{Statement}
use Rattle.script.specs.Fault.{limits_fault, shape_fault, uses_fault, fault}
use Rattle.script.specs.Kinds.{call_kind, node_at, kind_at, is_of, want_a, want_b, want_c}
use Rattle.script.specs.Limits.{max_functions, max_globals, max_words, max_nodes, max_parameters, max_locals, max_nesting, locals_of}
use Rattle.script.specs.Nesting.{nesting_of}
use Rattle.script.specs.Scope.{arguments_of, function_at, names_local, root_of}
use Rattle.script.specs.Shaped.{Number, Shaped}
use Rattle.script.specs.Uses.{uses_as_child, uses_as_body}

-- the node m is a child of the node n
pub data ChildOf (xs : List Node) (n m : ℕ) : Type 0 where
  by_a : (s : Sort) → want_a (kind_at xs n) ≡ Some s → (node_at xs n).a ≡ pos m → ChildOf xs n m
  by_b : (s : Sort) → want_b (kind_at xs n) ≡ Some s → (node_at xs n).b ≡ pos m → ChildOf xs n m
  by_c : (s : Sort) → want_c (kind_at xs n) ≡ Some s → (node_at xs n).c ≡ pos m → ChildOf xs n m

-- every table, count and body's number is within its limits
pub record Limited (fs : List Function) (gs : List ℕ) (xs : List Node) : Type 0 where
  pub functions : (0 < length fs) × (length fs ≤ max_functions)
  pub globals : length gs ≤ max_globals
  pub nodes : (0 < length xs) × (length xs ≤ max_nodes)
  pub words : sum gs ≤ max_words
  pub global : (g : ℕ) → g < length gs → (0 < slice_index gs g) × (slice_index gs g ≤ max_words)
  pub parameters : (f : ℕ) → f < length fs → (function_at fs f).parameters ≤ max_parameters
  pub locals : (f : ℕ) → f < length fs → locals_of (function_at fs f) ≤ max_locals
  pub body : (f : ℕ) → f < length fs → (function_at fs f).body < length xs

-- every node is part of the tree under exactly one body
pub record Rooted (fs : List Function) (xs : List Node) : Type 0 where
  pub of_body : (f : ℕ) → f < length fs → root_of xs (function_at fs f).body ≡ (function_at fs f).body
  pub of_child : (n m : ℕ) → n < length xs → ChildOf xs n m → root_of xs m ≡ root_of xs n
  pub body : (n : ℕ) → n < length xs → (f : ℕ) × (f < length fs) × ((function_at fs f).body ≡ root_of xs n)
  pub alone : (f g : ℕ) → f < length fs → g < length fs → (function_at fs f).body ≡ (function_at fs g).body → f ≡ g

pub record Sound (fs : List Function) (gs : List ℕ) (xs : List Node) : Type 0 where
  pub limited : Limited fs gs xs
  pub shaped : Shaped fs gs xs
  pub body : (f : ℕ) → f < length fs → is_of Statement (kind_at xs (function_at fs f).body) ≡ true
  pub used : (n : ℕ) → n < length xs → uses_as_child xs n + uses_as_body fs n ≡ 1
  pub rooted : Rooted fs xs
  -- a local is one of the function whose body its tree is
  pub local : (n f : ℕ) → n < length xs → f < length fs → (function_at fs f).body ≡ root_of xs n → names_local (kind_at xs n) ≡ true → Number (node_at xs n).a (locals_of (function_at fs f))
  -- a call has as many arguments as the function that it names has parameters
  pub arguments : (n f : ℕ) → n < length xs → kind_at xs n ≡ call_kind → (node_at xs n).a ≡ pos f → arguments_of xs n ≡ (function_at fs f).parameters
  pub nesting : (n : ℕ) → n < length xs → is_of Statement (kind_at xs n) ≡ false → nesting_of xs n ≤ max_nesting

-- what the nodes of a function are is clear before scopes are looked at
abbrev pub NodesHaveOneFunction : Type 0
NodesHaveOneFunction = (fs : List Function) (gs : List ℕ) (xs : List Node) → limits_fault fs gs xs ≡ None → shape_fault fs gs xs ≡ None → uses_fault fs xs ≡ None → Rooted fs xs

abbrev pub AcceptedAreSound : Type 0
AcceptedAreSound = (fs : List Function) (gs : List ℕ) (xs : List Node) → fault fs gs xs ≡ None → Sound fs gs xs

-- and no other tables are so
abbrev pub SoundAreAccepted : Type 0
SoundAreAccepted = (fs : List Function) (gs : List ℕ) (xs : List Node) → Sound fs gs xs → fault fs gs xs ≡ None
