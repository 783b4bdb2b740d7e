-- What the script in accepted tables can be relied on for.
use Rattle.std.specs.Prelude.{◌≡◌, ℕ, suc, ◌<◌, List, length, None, sum, slice_index_or}
use Rattle.std.specs.List.{AllByRecursion}
use Rattle.script.specs.declared.Function.{Function as Row}
use Rattle.script.specs.declared.Node.{Node}
use Rattle.script.specs.Fault.{fault}
use Rattle.script.specs.Limits.{max_nesting}
use Rattle.script.specs.Scope.{function_at}
use Rattle.meaning.specs.Tree.{Function, Script}
use Rattle.meaning.specs.Tables.{script_of}
use Rattle.meaning.specs.Meaning.{no_function}
use Rattle.symbolic.specs.Symbolic.{Fits}
use Rattle.symbolic.specs.Proper.{Known, Proper, Distinct}

-- every constant, a node of kind 0, is a 32-bit word
abbrev pub ConstantsFit : List Node → Type 0
ConstantsFit xs = AllByRecursion (λ x. x.kind ≡ 0 → Fits x.a) xs

-- the words that an expression may take above a function's locals: it takes at most one more than it nests deep
abbrev pub spare_words : ℕ
spare_words = suc max_nesting

-- the function with that number
abbrev pub script_function : Script → ℕ → Function
script_function s f = slice_index_or s.functions f no_function

-- the script has the tables' functions, its names are in range, its expressions have room, and no two of its whiles have one number
pub record Ready (fs : List Row) (gs : List ℕ) (s : Script) : Type 0 where
  pub lengths : s.lengths ≡ gs
  pub functions : length s.functions ≡ length fs
  pub parameters : (f : ℕ) → f < length fs → (script_function s f).parameters ≡ (function_at fs f).parameters
  pub locals : (f : ℕ) → f < length fs → (script_function s f).locals ≡ (function_at fs f).locals
  pub proper : Proper s.lengths s.functions (sum gs) spare_words
  pub distinct : Distinct s.functions
  pub main : Known s.functions 0 (function_at fs 0).parameters

abbrev pub AcceptedAreProper : Type 0
AcceptedAreProper = (fs : List Row) (gs : List ℕ) (xs : List Node) → fault fs gs xs ≡ None → ConstantsFit xs → Ready fs gs (script_of fs gs xs)
