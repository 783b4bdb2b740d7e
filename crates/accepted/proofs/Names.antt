-- The names in a script are in range: its functions are the tables', and its globals lie within the words of all of them.
use Rattle.std.proofs.Common.{◌≡◌, ℕ, zero, suc, ◌+◌, ◌<◌, ◌≤◌, List, [], ◌∷◌, length, get_or, sum, ap, ◌∙◌, arith}
use Rattle.std.proofs.lemmas.List.{length-map}
use Rattle.std.proofs.lemmas.List.Sums.{sum_by-cons}
use Rattle.script.specs.declared.Function.{Function as Row}
use Rattle.script.specs.declared.Node.{Node}
use Rattle.script.specs.Scope.{function_at, no_function}
use Rattle.meaning.specs.Tree.{Function}
use Rattle.meaning.specs.Tables.{parts, function_of, script_of}
use Rattle.meaning.specs.Meaning.{first_word}
use Rattle.meaning.proofs.Decodes.{function_is}
use Rattle.symbolic.specs.Proper.{Known}

-- a global ends within the words of all
pub words_end : (gs : List ℕ) (g : ℕ) → g < length gs → first_word gs g + get_or gs g 0 ≤ sum gs
words_end [] g h = absurd (omega arith)
words_end (x ∷ gs) zero h = omega (arith, sum_by-cons (λ (n : ℕ). n) x gs)
words_end (x ∷ gs) (suc g) h = let l = words_end gs g (omega arith) in omega (arith, sum_by-cons (λ (n : ℕ). n) x gs, l)

module _ (fs : List Row) (gs : List ℕ) (xs : List Node) where
  pub as_many : length (script_of fs gs xs).functions ≡ length fs
  as_many = length-map fs (function_of (parts xs))

  pub known : (f : ℕ) → f < length fs → (c : ℕ) → (function_at fs f).parameters ≡ c → Known (script_of fs gs xs).functions f c
  known f h c e = (omega (arith, as_many), ap (λ (x : Function). x.parameters) (function_is fs gs xs f no_function h) ∙ e)
