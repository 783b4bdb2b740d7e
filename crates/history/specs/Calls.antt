-- The calls of a station, each with all that it is handed; a board goes by its meaning.
use Rattle.std.specs.Prelude.{ℕ, Bool, cond, ◌||◌, List, length, is_ok, Some, None, Ok, Err, Option, Result, ◌==◌, nat_lt}
use Rattle.answer.specs.Numbers.{refused}
use Rattle.answer.specs.declared.Reason.TheVariants.{CodeLength, NothingLoaded, StackLength, InputCount, OutputHeader}
use Rattle.answer.specs.declared.Reason.TheVariants as reason
use Rattle.answer.specs.declared.Refusal.{Refusal}
use Rattle.board.specs.Meaning.{Means}
use Rattle.layers.specs.Layer.{lowered}
use Rattle.packet.specs.Check.{checked}
use Rattle.packet.specs.Output.{fits_header}
use Rattle.packet.specs.Packed.{packed}
use Rattle.rules.specs.Limits.{turns_limit, depth_limit}
use Rattle.machine.specs.declared.Allowance.{Allowance}
use Rattle.script.specs.declared.Function.{Function}
use Rattle.script.specs.declared.Node.{Node}
use Rattle.script.specs.Least.{or_else}
use Rattle.script.specs.Fault.{fault}
use Rattle.meaning.specs.Tree.{Script}
use Rattle.meaning.specs.Tables.{script_of}
use Rattle.scheme.specs.Written.{too_long}
use Rattle.agreement.specs.Agreement.{stack_words}

-- what a load is handed: functions, the lengths of the globals, nodes
pub record Tables : Type 0 where
  pub functions : List Function
  pub lengths : List ℕ
  pub nodes : List Node

abbrev pub tables : List Function → List ℕ → List Node → Tables
tables fs gs xs = record { functions = fs; lengths = gs; nodes = xs }

-- what a pass is handed: an allowance, a stack of so many words, a board. A packet pass is the pass within it, with what refuses it before that
-- pass: `early` is none for a plain pass.
pub record Pass : Type 0 where
  pub early : Option Refusal
  pub allowed : Allowance
  pub stack : ℕ
  pub board : Means

pub data Call : Type 0 where
  load : Tables → Call
  pass : Pass → Call
  clear : Call

-- a pass on a board
abbrev pub plain_pass : Allowance → ℕ → Means → Pass
plain_pass allowed stack board = record { early = None; allowed = allowed; stack = stack; board = board }

-- the script that tables hold
abbrev pub script_in : Tables → Script
script_in t = script_of t.functions t.lengths t.nodes

-- why a load is refused, if it is: a fault of the tables, then code that is too long
abbrev pub load_refusal : Tables → Option Refusal
load_refusal t = or_else (fault t.functions t.lengths t.nodes) (cond (too_long (script_in t)) (Some (refused CodeLength)) None)

-- turns or depth that no run may be allowed
abbrev pub outside : Allowance → Bool
outside a = nat_lt a.turns 1 || (nat_lt turns_limit a.turns || (nat_lt a.depth 1 || nat_lt depth_limit a.depth))

-- why a pass is refused, if it is, where main takes `main` inputs, or nothing is loaded: by its allowance, the words of its stack and the number of
-- its inputs, in this order
abbrev pub pass_refusal : Option ℕ → Allowance → ℕ → ℕ → Option Refusal
pass_refusal None allowed stack inputs = Some (refused NothingLoaded)
pass_refusal (Some main) allowed stack inputs =
    cond (outside allowed) (Some (refused reason.Allowance))
    (cond (nat_lt stack (stack_words allowed.depth)) (Some (refused StackLength))
    (cond (inputs == main) None (Some (refused InputCount))))

-- the refusal in a result
abbrev pub refusal_in : {X : Type 0} → Result X Refusal → Option Refusal
refusal_in (Ok x) = None
refusal_in (Err e) = Some e

-- why a packet pass is refused before its pass: its input packet and the room of its output, then what its header would carry
abbrev pub packet_refusal : List ℕ → ℕ → ℕ → ℕ → Option Refusal
packet_refusal input room apid count = or_else (refusal_in (checked input room)) (cond (fits_header apid count) None (Some (refused OutputHeader)))

-- the board of a packet pass: the twelve-bit layer over the packet board, without readings
abbrev pub packet_board : List ℕ → List ℕ → Means
packet_board input output = lowered (packed input output (is_ok (checked input (length output))) 0)

abbrev pub packet_pass : Allowance → ℕ → List ℕ → List ℕ → ℕ → ℕ → Pass
packet_pass allowed stack input output apid count =
    record { early = packet_refusal input (length output) apid count; allowed = allowed; stack = stack; board = packet_board input output }
