-- The machine: one step, and runs.
use Rattle.std.specs.Prelude.{◌≡◌, ℕ, ◌+◌, ◌-◌, cond, List, length, ℤ, pos, Some, None, Option, nat_lt, slice_index_or, unsigned_abs}
use Rattle.answer.specs.declared.Ending.{Ending}
use Rattle.answer.specs.declared.Ending.TheVariants.{UnknownInstruction, OutsideCode}
use Rattle.board.specs.Meaning.{has_room}
use Rattle.rules.specs.declared.View.{View}
use Rattle.rules.specs.declared.Registers.{Registers}
use Rattle.rules.specs.declared.Instruction.{Instruction}
use Rattle.rules.specs.Rules.{decode, among, rule, judged}
use Rattle.effects.specs.Effects.{State, Next, goes, halts, effect, unless}

-- what stays the same in a run: the code, and the greatest depth allowed
pub record Setup : Type 0 where
  pub code : List ℤ
  pub deepest : ℕ

-- the k-th word from the top, 0 where there is none
abbrev pub from_top : List ℤ → ℕ → ℕ → ℤ
from_top ws used k = cond (nat_lt used k) (pos 0) (slice_index_or ws (used - k) (pos 0))

-- what the instruction at a position in the code sees
abbrev pub viewed : List ℤ → ℕ → ℕ → List ℤ → ℕ → Registers → View
viewed code inputs deepest ws used r = record {
  left = length code - unsigned_abs r.position - 1;
  x = slice_index_or code (unsigned_abs r.position + 1) (pos 0);
  y = slice_index_or code (unsigned_abs r.position + 2) (pos 0);
  z = slice_index_or code (unsigned_abs r.position + 3) (pos 0);
  used = used;
  capacity = length ws;
  top = from_top ws used 1;
  second = from_top ws used 2;
  inputs = inputs;
  deepest = deepest;
  registers = r;
}

abbrev pub view : Setup → State → View
view t s = viewed t.code (length s.board.inputs) t.deepest s.words s.used s.registers

-- an instruction, if the number is one's, after its tests in their order
abbrev pub acted : Option Instruction → View → State → Next
acted None v s = halts UnknownInstruction
acted (Some o) v s = unless (judged (rule o v) v (has_room s.board)) (effect o v s)

-- one step: the position is tested first, then the number, then the instruction's own tests
unfoldable pub step : Setup → State → Next
step t s =
    cond (among s.registers.position (length t.code))
    (acted (decode (slice_index_or t.code (unsigned_abs s.registers.position) (pos 0))) (view t s) s)
    (halts OutsideCode)

-- from a state a run ends with an ending, and leaves a state
pub data Ends (t : Setup) : State → Ending → State → Type 0 where
  here : {s : State} {c : Ending} → step t s ≡ halts c → Ends t s c s
  later : {s s' u : State} {c : Ending} → step t s ≡ goes s' → Ends t s' c u → Ends t s c u
