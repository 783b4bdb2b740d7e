-- What a load and a pass leave behind, by the station's memory and the machine's definition.
use Rattle.std.specs.Prelude.{◌≡◌, List, length, take, drop, ℤ, Ok, Err, sum, Result}
use Rattle.answer.specs.declared.Answer.{Answer}
use Rattle.answer.specs.declared.Refusal.{Refusal}
use Rattle.board.specs.Meaning.{Means}
use Rattle.script.specs.declared.Function.{Function}
use Rattle.machine.specs.declared.Allowance.{Allowance}
use Rattle.machine.specs.Machine.{Setup}
use Rattle.machine.specs.Execute.{starting, Ran}
use Rattle.effects.specs.Effects.{State as Machine}
use Rattle.scheme.specs.Written.{written}
use Rattle.agreement.specs.Agreement.{stack_words, marked}
use Rattle.history.specs.declared.Said.{Said}
use Rattle.history.specs.declared.Said.TheVariants.{Done, Refused, Answered}
use Rattle.history.specs.Calls.{Tables, script_in}
use Rattle.history.specs.History.{zeros, kept_by}
use Rattle.station.specs.declared.held.Station.{Station}
use Rattle.station.specs.Held.{globals_of, laid, code_of, marks_of, Holds, Kept}
use Rattle.station.specs.Filled.{Filled}

-- what an accepted load leaves: the code of the tables, globals that are 0, and in the lent functions their entry positions
pub record LoadedFrom (t : Tables) (s : Station) (functions : List Function) : Type 0 where
  pub holds : Holds t s
  pub globals : globals_of s.globals ≡ zeros (sum t.lengths)
  pub entries : Filled (written (script_in t)).entries t.functions functions

-- the machine's part of a station
abbrev pub setup_of : Station → Allowance → Setup
setup_of s allowed = record { code = code_of s; deepest = allowed.depth }

-- the words of the stack that a pass may touch
abbrev pub touched : Allowance → List ℤ → List ℤ
touched allowed stack = take (stack_words allowed.depth) stack

-- where the machine starts: at position 0, with the globals as its starting words at the stack's front
abbrev pub start_of : Station → Allowance → List ℤ → Means → Machine
start_of s allowed stack board =
    starting (laid (globals_of s.globals) (touched allowed stack)) (length (globals_of s.globals)) board allowed.turns

-- what a pass that was not refused answers and leaves: the machine's run on the loaded code, told by marks; the globals written back only if it finished
pub record Passed (s s' : Station) (allowed : Allowance) (stack stack' : List ℤ) (board board' : Means) (a : Answer) : Type 0 where
  pub by_position : Answer
  pub ran : Ran (setup_of s allowed) (start_of s allowed stack board) by_position (touched allowed stack') board'
  pub told : a ≡ marked (marks_of s) by_position
  pub beyond : drop (stack_words allowed.depth) stack' ≡ drop (stack_words allowed.depth) stack
  pub kept : Kept s s'
  pub globals : globals_of s'.globals ≡ kept_by a.ending (take (length (globals_of s.globals)) stack') (globals_of s.globals)

-- what a call's result says, where an answer is in it
abbrev pub said_by : {X : Type 0} → (X → Answer) → Result X Refusal → Said
said_by answer (Ok x) = Answered (answer x)
said_by answer (Err e) = Refused e

abbrev pub said_of : Result Answer Refusal → Said
said_of = said_by (λ a. a)

abbrev pub done_of : Result (Unit {0}) Refusal → Said
done_of (Ok u) = Done
done_of (Err e) = Refused e
