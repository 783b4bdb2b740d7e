-- The limits of a script's tables.
use Rattle.std.specs.Prelude.{ℕ, ◌+◌, Bool, true, ◌&&◌, List, [], ◌∷◌, length, sum, nat_le, nat_lt}
use Rattle.script.specs.declared.Function.{Function}
use Rattle.script.specs.declared.Node.{Node}

abbrev pub max_functions : ℕ
max_functions = 16

abbrev pub max_globals : ℕ
max_globals = 16

-- words of all globals together, and of one
abbrev pub max_words : ℕ
max_words = 64

abbrev pub max_nodes : ℕ
max_nodes = 512

abbrev pub max_parameters : ℕ
max_parameters = 8

-- parameters and further locals together
abbrev pub max_locals : ℕ
max_locals = 32

abbrev pub max_nesting : ℕ
max_nesting = 24

-- whether a count is from 1 to the limit
abbrev pub counts : ℕ → ℕ → Bool
counts n most = nat_lt 0 n && nat_le n most

-- whether each element passes
abbrev pub every : {X : Type 0} → (X → Bool) → List X → Bool
every p [] = true
every p (x ∷ xs) = p x && every p xs

-- how many locals a function has, its parameters among them
abbrev pub locals_of : Function → ℕ
locals_of f = f.parameters + f.locals

-- a function's counts, and its body's number among `n` nodes
abbrev pub function_fits : ℕ → Function → Bool
function_fits n f = nat_le f.parameters max_parameters && (nat_le (locals_of f) max_locals && nat_lt f.body n)

abbrev pub functions_fit : List Function → ℕ → Bool
functions_fit fs n = every (function_fits n) fs

abbrev pub global_fits : ℕ → Bool
global_fits g = counts g max_words

abbrev pub globals_fit : List ℕ → Bool
globals_fit gs = every global_fits gs && nat_le (sum gs) max_words

-- how many there are of each
abbrev pub counts_fit : ℕ → ℕ → ℕ → Bool
counts_fit functions globals nodes = counts functions max_functions && (nat_le globals max_globals && counts nodes max_nodes)

-- every table, count and body's number within its limits
unfoldable pub within_limits : List Function → List ℕ → List Node → Bool
within_limits fs gs xs = counts_fit (length fs) (length gs) (length xs) && (functions_fit fs (length xs) && globals_fit gs)
