-- The code that is written for a script, run as symbolic code, does what the script means.
use Rattle.std.specs.Prelude.{◌≡◌, ℕ, ◌+◌, ◌*◌, ◌^◌, ◌<◌, ◌≤◌, List, [], length, ℤ}
use Rattle.board.specs.Meaning.{Means}
use Rattle.meaning.specs.Tree.{Script}
use Rattle.meaning.specs.Run.{outcome}
use Rattle.scheme.specs.Scheme.{script_code}
use Rattle.symbolic.specs.Symbolic.{Rest, Ends, onto}
use Rattle.symbolic.specs.Proper.{Fit, Known, Proper, finish_of, frame_limit}

-- where a run of symbolic code starts, but for its words
abbrev pub resting : Means → ℕ → Rest
resting board turns = record { base = 0; left = turns; depth = 0; deep = 0; out = board.readings; back = [] }

-- `gl` are the words of the globals, `spare` those that a function's expressions need, `cap` those that there are. From the globals alone on the
-- stack, under an allowance of any turns and at least one level, the code ends as the script does under the same allowance.
abbrev pub Simulated : Type 0
Simulated =
    (script : Script) (globals : List ℤ) (board : Means) (turns limit gl spare cap : ℕ)
    → Proper script.lengths script.functions gl spare → Known script.functions 0 (length board.inputs)
    → Fit board.inputs → Fit globals → length globals ≡ gl
    → 1 ≤ spare → 1 ≤ limit → gl + frame_limit * limit ≤ cap → cap < 2 ^ 31
    → Ends (script_code script) cap limit board (script_code script) (onto globals []) (resting board turns)
    (finish_of (outcome script globals board turns limit))
