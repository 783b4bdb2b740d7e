-- A script's run on a board under an allowance of turns and depth, its record, and its free run.
use Rattle.std.specs.Prelude.{◌≡◌, ℕ, ◌-◌, ◌≤◌, ◌⊎◌, List, [], ℤ, pos}
use Rattle.answer.specs.Numbers.{no_place}
use Rattle.answer.specs.declared.Answer.{Answer}
use Rattle.answer.specs.declared.Ending.{Ending}
use Rattle.answer.specs.declared.Ending.TheVariants.{Finished, NoTurnLeft, TooDeep}
use Rattle.board.specs.Meaning.{Means}
use Rattle.meaning.specs.Tree.{Script}
use Rattle.meaning.specs.Steps.{State, Out, fine, ended}
use Rattle.meaning.specs.Meaning.{entering, body}

-- what a run leaves: its answer, the readings and the globals
pub record Record : Type 0 where
  pub answer : Answer
  pub readings : List ℤ
  pub globals : List ℤ

-- the record of a run that ended in a state, having spent so many turns
abbrev pub recorded : ℕ → Ending → ℕ → ℤ → State → Record
recorded spent e n v s =
    record {
      answer = record { ending = e; place = pos n; value = v; turns = spent; depth = s.deepest };
      readings = s.readings;
      globals = s.globals;
    }

-- the record of a run that was allowed so many turns
abbrev pub record_of : ℕ → Out ℤ → Record
record_of turns (fine v s) = recorded (turns - s.left) Finished no_place v s
record_of turns (ended e n s) = recorded (turns - s.left) e n (pos 0) s

-- where a run starts
abbrev pub starting : List ℤ → Means → ℕ → State
starting globals board turns = record { globals = globals; locals = []; readings = board.readings; left = turns; deepest = 0 }

-- main is called from depth 0, at no node, with the board's inputs
unfoldable pub outcome : Script → List ℤ → Means → ℕ → ℕ → Out ℤ
outcome script globals board turns depth =
    entering depth 0 (body script board depth turns 1) no_place 0 board.inputs (starting globals board turns)

abbrev pub run : Script → List ℤ → Means → ℕ → ℕ → Record
run script globals board turns depth = record_of turns (outcome script globals board turns depth)

-- an ending that names turns or depth
abbrev pub Starved : Ending → Type 0
Starved e = (e ≡ NoTurnLeft) ⊎ (e ≡ TooDeep)

-- a free run: the record under some allowance that it does not name
pub record Free (script : Script) (globals : List ℤ) (board : Means) (r : Record) : Type 0 where
  pub turns : ℕ
  pub depth : ℕ
  pub runs : run script globals board turns depth ≡ r
  pub fed : Starved r.answer.ending → ⊥

-- an allowance covers what a free run needs: the turns and the depth that its answer carries
abbrev pub Covers : ℕ → ℕ → Record → Type 0
Covers turns depth r = (r.answer.turns ≤ turns) × (r.answer.depth ≤ depth)
