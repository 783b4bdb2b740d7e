-- The functions of a script, one after the other from the last to the first, and code at the far end of a table.
use Rattle.std.specs.Prelude.{◌≡◌, ℕ, ◌+◌, ◌-◌, ◌<◌, ◌≤◌, false, cond, List, ◌∷◌, map, length, drop, ℤ, Ok, Err, Option, Result, MatchOption}
use Rattle.answer.specs.Numbers.{refused}
use Rattle.answer.specs.declared.Reason.TheVariants.{CodeLength}
use Rattle.answer.specs.declared.Refusal.{Refusal}
use Rattle.rules.specs.Limits.{code_limit}
use Rattle.meaning.specs.Tree.{Script}
use Rattle.script.specs.declared.Script.{Script as Accepted}
use Rattle.script.specs.Scope.{function_at}
use Rattle.meaning.specs.Tables.{parts, function_of, stmt_at, script_of}
use Rattle.scheme.specs.Code as S
use Rattle.scheme.specs.Scheme.{body_code, functions_code, script_code}
use Rattle.scheme.specs.Written.{whole_words, code_marks, written, too_long}
use Rattle.reading.specs.Nodes.{IsStatement, whiles}

-- what the tables of an accepted script mean
abbrev pub tree_of : Accepted → Script
tree_of s = script_of s.functions.now s.globals.now s.nodes.now

-- a function that can be written with room for `spare` more open loops
pub record Suits (s : Accepted) (spare number : ℕ) : Type 0 where
  pub body : (function_at s.functions.now number).body < length s.nodes.now
  pub sort : IsStatement s.nodes.now (function_at s.functions.now number).body
  pub words : (function_at s.functions.now number).parameters + (function_at s.functions.now number).locals < 65536
  pub nest : whiles (stmt_at s.nodes.now (function_at s.functions.now number).body) ≤ spare

abbrev pub AllSuit : Accepted → ℕ → Type 0
AllSuit s spare = (number : ℕ) → number < length s.functions.now → Suits s spare number

-- a function behind its entry
abbrev pub entered_code : Accepted → ℕ → S.Code → S.Code
entered_code s number C = S.entry number ∷ body_code s.globals.now (function_of (parts s.nodes.now) (function_at s.functions.now number)) C

-- the code of the functions from number i on
abbrev pub code_from : Accepted → ℕ → S.Code
code_from s i = functions_code s.globals.now i (map (function_of (parts s.nodes.now)) (drop i s.functions.now))

-- code at the far end of a table
pub record Placed (words : List ℤ) (marks : List ℕ) (start : ℕ) (P : S.Code) : Type 0 where
  pub fits : start + S.size P ≡ length words
  pub code : drop start words ≡ whole_words P
  pub nodes : drop start marks ≡ code_marks P

-- the code of a script, or that it is too long for the table
abbrev pub PlacedOr : List ℤ → List ℕ → Option ℕ → S.Code → Type 0
PlacedOr words marks r P = MatchOption r (length words < S.size P) (λ start. Placed words marks start P)

-- where the code starts, or the refusal
abbrev pub answered : Script → Result ℕ Refusal
answered s = cond (too_long s) (Err (refused CodeLength)) (Ok (code_limit - S.size (script_code s)))

-- the words, and the marks, of code that is not too long
abbrev pub WordsIn : List ℤ → Script → Type 0
WordsIn words s = too_long s ≡ false → drop (code_limit - S.size (script_code s)) words ≡ (written s).words

abbrev pub MarksIn : List ℕ → Script → Type 0
MarksIn marks s = too_long s ≡ false → drop (code_limit - S.size (script_code s)) marks ≡ (written s).marks
