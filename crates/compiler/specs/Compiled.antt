-- What comes of three tables: the refusal that is due, or their code.
use Rattle.std.specs.Prelude.{◌≡◌, ℕ, ◌-◌, ◌<◌, false, List, length, drop, ℤ, Some, None, Err, Option, Result, slice_index}
use Rattle.answer.specs.declared.Refusal.{Refusal}
use Rattle.rules.specs.Limits.{code_limit}
use Rattle.script.specs.declared.Function.{Function}
use Rattle.script.specs.declared.Node.{Node}
use Rattle.script.specs.Fault.{fault}
use Rattle.meaning.specs.Tree.{Script}
use Rattle.meaning.specs.Tables.{script_of}
use Rattle.scheme.specs.Code.{size}
use Rattle.scheme.specs.Scheme.{script_code}
use Rattle.scheme.specs.Written.{written, too_long}
use Rattle.writer.specs.Program.{answered}

-- a fault of the tables comes first, then code that is too long; else where the code starts in a table of the longest code there may be
abbrev pub unless : Option Refusal → Result ℕ Refusal → Result ℕ Refusal
unless None r = r
unless (Some why) r = Err why

abbrev pub compiled : List Function → List ℕ → List Node → Result ℕ Refusal
compiled functions lengths nodes = unless (fault functions lengths nodes) (answered (script_of functions lengths nodes))

-- the position from which so many words are left of a whole
unfoldable pub position_of : ℕ → ℕ → ℕ
position_of whole left = whole - left

-- the tables of words and marks hold the code of a script at their far end, and each function's entry position is in its place
pub record Code (script : Script) (functions : ℕ) (words : List ℤ) (marks entries : List ℕ) : Type 0 where
  pub words_are : drop (code_limit - size (script_code script)) words ≡ (written script).words
  pub marks_are : drop (code_limit - size (script_code script)) marks ≡ (written script).marks
  pub entries_are : (f : ℕ) → f < functions → slice_index entries f ≡ slice_index (written script).entries f

-- where the tables are accepted and their code is not too long, it is there
abbrev pub Holds : List Function → List ℕ → List Node → List ℤ → List ℕ → List ℕ → Type 0
Holds functions lengths nodes words marks entries =
    fault functions lengths nodes ≡ None → too_long (script_of functions lengths nodes) ≡ false
    → Code (script_of functions lengths nodes) (length functions) words marks entries
