-- The machine on the code of an accepted script does what the script means, under the same allowance.
use Rattle.std.specs.Prelude.{◌≡◌, ℕ, ◌+◌, ◌*◌, ◌^◌, ◌<◌, ◌≤◌, List, length, take, drop, ℤ, pos, None, sum, slice_index_or, unsigned_abs}
use Rattle.answer.specs.Numbers.{ending_number, no_place}
use Rattle.answer.specs.declared.Answer.{Answer}
use Rattle.answer.specs.declared.Ending.TheVariants.{Finished}
use Rattle.board.specs.Meaning.{Means}
use Rattle.effects.specs.Effects.{State}
use Rattle.machine.specs.Machine.{Ends}
use Rattle.machine.specs.Execute.{starting, answered}
use Rattle.script.specs.declared.Function.{Function}
use Rattle.script.specs.declared.Node.{Node}
use Rattle.script.specs.Limits.{max_words}
use Rattle.script.specs.Scope.{function_at}
use Rattle.script.specs.Fault.{fault}
use Rattle.meaning.specs.Tables.{script_of}
use Rattle.meaning.specs.Meaning.{showing}
use Rattle.meaning.specs.Run.{Record, run}
use Rattle.scheme.specs.Written.{Written, written}
use Rattle.symbolic.specs.Proper.{Fit, frame_limit}
use Rattle.accepted.specs.Accepted.{ConstantsFit}

-- the words that a run may touch: room for globals, and a frame for each level of depth
abbrev pub stack_words : ℕ → ℕ
stack_words depth = max_words + frame_limit * depth

-- the machine's answer, told by nodes: the mark of the position where it ended
abbrev pub marked : List ℕ → Answer → Answer
marked marks a =
    record { ending = a.ending; place = pos (slice_index_or marks (unsigned_abs a.place) no_place); value = a.value; turns = a.turns; depth = a.depth }

-- the machine's outcome on the code, from a state, is the record r of a script's run
pub record Agreed (code : Written) (board : Means) (depth : ℕ) (start : State) (r : Record) : Type 0 where
  pub final : State
  pub ends : Ends (record { code = code.words; deepest = depth }) start r.answer.ending final
  pub answer :
      marked code.marks (answered start.registers.turns r.answer.ending final.words final.used final.registers) ≡ r.answer
  pub board_left : final.board ≡ showing board r.readings
  -- a run that finished leaves the globals at the front of the stack
  pub globals_left : r.answer.ending ≡ Finished → take (length r.globals) final.words ≡ r.globals
  -- no script's code ends with 6 to 11
  pub proper : ending_number r.answer.ending ≤ 5
  pub untouched : drop (stack_words depth) final.words ≡ drop (stack_words depth) start.words

-- what a run is handed besides its allowance: the tables of an accepted script, globals of its total, a board with as many inputs as main has
-- parameters, and a stack with the globals at its front; all words fit
pub record Handed (functions : List Function) (lengths : List ℕ) (nodes : List Node) (globals : List ℤ) (board : Means) (stack : List ℤ) : Type 0 where
  pub accepts : fault functions lengths nodes ≡ None
  pub constants : ConstantsFit nodes
  pub total : length globals ≡ sum lengths
  pub globals_fit : Fit globals
  pub inputs_fit : Fit board.inputs
  pub inputs : length board.inputs ≡ (function_at functions 0).parameters
  pub front : take (length globals) stack ≡ globals

-- an allowance that a run may have on a stack
pub record Allows (turns depth : ℕ) (stack : List ℤ) : Type 0 where
  pub turn : 1 ≤ turns
  pub level : 1 ≤ depth
  -- every address on the stack is a word
  pub limit : stack_words depth < 2 ^ 31
  pub room : stack_words depth ≤ length stack

abbrev pub Agreement : Type 0
Agreement =
    (functions : List Function) (lengths : List ℕ) (nodes : List Node) (globals : List ℤ) (board : Means) (stack : List ℤ) (turns depth : ℕ)
    → Handed functions lengths nodes globals board stack → Allows turns depth stack
    → let script = script_of functions lengths nodes in
    Agreed (written script) board depth (starting stack (length globals) board turns) (run script globals board turns depth)
