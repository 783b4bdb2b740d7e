-- What runs and code stay within.
use Rattle.std.specs.Prelude.{◌≡◌, ℕ, ◌≤◌, List, length, ℤ, None}
use Rattle.std.specs.List.{AllByRecursion}
use Rattle.answer.specs.Numbers.{no_place}
use Rattle.board.specs.Meaning.{Means}
use Rattle.script.specs.declared.Function.{Function as Row}
use Rattle.script.specs.declared.Node.{Node}
use Rattle.script.specs.Fault.{fault}
use Rattle.meaning.specs.Tree.{Script}
use Rattle.meaning.specs.Tables.{script_of}
use Rattle.meaning.specs.Run.{run}
use Rattle.scheme.specs.Written.{written}

-- each mark of an accepted script's code is a node or none: it goes into 16 bits
abbrev pub MarksFit : Type 0
MarksFit = (fs : List Row) (gs : List ℕ) (xs : List Node) → fault fs gs xs ≡ None → AllByRecursion (λ m. m ≤ no_place) (written (script_of fs gs xs)).marks

-- a run leaves as many globals as it was handed
abbrev pub GlobalsStay : Type 0
GlobalsStay =
    (script : Script) (globals : List ℤ) (board : Means) (turns depth : ℕ) → length (run script globals board turns depth).globals ≡ length globals
