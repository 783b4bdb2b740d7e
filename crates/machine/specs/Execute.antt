-- What execute refuses and answers, and the law of runs.
use Rattle.std.specs.Prelude.{◌≡◌, ℕ, ◌-◌, cond, ◌||◌, List, ℤ, pos, Some, None, Ok, Err, Option, Result, ◌==◌, nat_lt}
use Rattle.std.specs.Option.{unwrap_or}
use Rattle.answer.specs.declared.Ending.{Ending}
use Rattle.answer.specs.declared.Answer.{Answer}
use Rattle.answer.specs.declared.Refusal.{Refusal}
use Rattle.answer.specs.declared.Reason.TheVariants as reason
use Rattle.answer.specs.Numbers.{ending_number, refused}
use Rattle.stack.specs.Entries.{top_of}
use Rattle.board.specs.Meaning.{Means}
use Rattle.rules.specs.declared.Registers.{Registers}
use Rattle.rules.specs.Limits.{code_limit, turns_limit, depth_limit, stack_limit}
use Rattle.effects.specs.Effects.{State, state}
use Rattle.machine.specs.declared.Allowance.{Allowance}
use Rattle.machine.specs.Machine.{Setup, Ends}

-- why loose code is not run, if it is not: the allowance is tested first, then the sizes
abbrev pub refusal : Allowance → ℕ → ℕ → ℕ → Option Refusal
refusal allowed code stack starting =
    cond (nat_lt allowed.turns 1 || (nat_lt turns_limit allowed.turns || (nat_lt allowed.depth 1 || nat_lt depth_limit allowed.depth)))
    (Some (refused reason.Allowance))
    (cond (nat_lt code_limit code || (nat_lt stack_limit stack || nat_lt stack starting)) (Some (refused reason.Sizes)) None)

-- why a run is not allowed so much, if it is not
abbrev pub allowance_refusal : Allowance → Option Refusal
allowance_refusal allowed =
    cond (nat_lt allowed.turns 1 || (nat_lt turns_limit allowed.turns || (nat_lt allowed.depth 1 || nat_lt depth_limit allowed.depth)))
    (Some (refused reason.Allowance)) None

abbrev pub passes : Option Refusal → Result (Unit {0}) Refusal
passes None = Ok tt
passes (Some e) = Err e

-- the registers in which a run starts
abbrev pub fresh : ℕ → Registers
fresh turns = record { position = pos 0; base = pos 0; turns = turns; depth = 0; deepest = 0 }

-- the state in which loose code starts, its starting words at the front of the stack
abbrev pub starting : List ℤ → ℕ → Means → ℕ → State
starting ws used board turns = state ws used board (fresh turns)

-- the value of a run: of a finished one its top word, 0 if there is none; of any other 0
abbrev pub value_of : Ending → List ℤ → ℕ → ℤ
value_of c ws used = cond (ending_number c == 0) (unwrap_or (top_of ws used) (pos 0)) (pos 0)

-- what is answered of a run that was allowed so many turns, from how it ended and what it left
abbrev pub answered : ℕ → Ending → List ℤ → ℕ → Registers → Answer
answered turns c ws used r =
    record { ending = c; place = r.position; value = value_of c ws used; turns = turns - r.turns; depth = r.deepest }

-- an answer, and what the stack and the board then hold, are those of the run from a state
pub record Ran (t : Setup) (s : State) (a : Answer) (words : List ℤ) (board : Means) : Type 0 where
  pub ending : Ending
  pub final : State
  pub ends : Ends t s ending final
  pub answer : a ≡ answered s.registers.turns ending final.words final.used final.registers
  pub words_left : words ≡ final.words
  pub board_left : board ≡ final.board

-- a refusal is the one that is due, and then nothing has changed; an answer comes where none is due
abbrev pub Executed : Option Refusal → Result Answer Refusal → Type 0 → (Answer → Type 0) → Type 0
Executed due (Ok a) unchanged ran = (due ≡ None) × ran a
Executed due (Err e) unchanged ran = (due ≡ Some e) × unchanged

-- the law of runs: from every state, on every code and under every allowance, there is exactly one outcome
abbrev pub OneOutcome : Type 0
OneOutcome =
    (t : Setup) (s : State) → (c : Ending) × (u : State) × Ends t s c u × ((d : Ending) (v : State) → Ends t s d v → (d ≡ c) × (v ≡ u))
