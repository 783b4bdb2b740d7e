-- What each instruction asks before it may go, and the order in which that is tested.
use Rattle.std.specs.Prelude.{◌≡◌, ℕ, zero, suc, ◌+◌, ◌-◌, ◌≤◌, Bool, true, false, cond, List, [], ◌∷◌, ℤ, pos, negsuc, Some, None, Ok, Err, Option, Result, ◌==◌, int_le, int_lt, nat_le, nat_lt, unsigned_abs}
use Rattle.answer.specs.declared.Ending.{Ending}
use Rattle.answer.specs.declared.Ending.TheVariants.{Finished, DivisorZero, IndexOutside, PageFull, NoTurnLeft, TooDeep, UnknownInstruction, OutsideCode, StackFull, TooFewWords, NoCaller, NegativeCount}
use Rattle.rules.specs.declared.View.{View}
use Rattle.rules.specs.declared.Instruction.{Instruction}
use Rattle.rules.specs.declared.Instruction.TheVariants.{Csti, Add, Sub, Mul, Div, Mod, Eq, Lt, Not, Dup, Swap, Ldi, Sti, GetBp, GetSp, IncSp, Goto, IfZero, IfNzro, Call, Tcall, Ret, Printi, LdArgs, Stop}

-- the instructions by number: 0 is the first, and 23 is none
abbrev pub numbered : List (Option Instruction)
numbered =
    Some Csti ∷ Some Add ∷ Some Sub ∷ Some Mul ∷ Some Div ∷ Some Mod ∷ Some Eq ∷ Some Lt ∷ Some Not ∷ Some Dup
    ∷ Some Swap ∷ Some Ldi ∷ Some Sti ∷ Some GetBp ∷ Some GetSp ∷ Some IncSp ∷ Some Goto ∷ Some IfZero ∷ Some IfNzro ∷ Some Call
    ∷ Some Tcall ∷ Some Ret ∷ Some Printi ∷ None ∷ Some LdArgs ∷ Some Stop ∷ []

abbrev pub listed : List (Option Instruction) → ℕ → Option Instruction
listed [] n = None
listed (x ∷ xs) zero = x
listed (x ∷ xs) (suc n) = listed xs n

abbrev pub decode : ℤ → Option Instruction
decode (pos n) = listed numbered n
decode (negsuc n) = None

-- by how many words INCSP raises, or lowers
abbrev pub up : ℤ → ℕ
up (pos n) = n
up (negsuc n) = 0

abbrev pub down : ℤ → ℕ
down (pos n) = 0
down (negsuc n) = suc n

-- whether a number is one of the first n
abbrev pub among : ℤ → ℕ → Bool
among (pos k) n = nat_lt k n
among (negsuc k) n = false

abbrev pub is_zero : ℤ → Bool
is_zero (pos n) = n == 0
is_zero (negsuc n) = false

-- a jump to the first operand that costs a turn, since it goes to its own position or back, and finds none
abbrev pub starved : View → Bool
starved v = cond (int_le v.x v.registers.position) (v.registers.turns == 0) false

-- the counts of a replacing call: one of them negative; the words that it takes
unfoldable pub either_negative : ℤ → ℤ → Bool
either_negative m n = cond (int_lt m (pos 0)) true (int_lt n (pos 0))

unfoldable pub framed : ℤ → ℤ → ℕ
framed m n = unsigned_abs m + unsigned_abs n + 2

-- what an instruction puts: words on the stack, or a reading on the page
pub data Puts : Type 0 where
  words : ℕ → Puts
  reading : Puts

-- what an instruction asks: operands after it in the code; no negative count; words on the stack;
-- nothing of its own that ends the run; room for what it puts
pub record Rule : Type 0 where
  pub operands : ℕ
  pub negative : Bool
  pub takes : ℕ
  pub own : Option Ending
  pub puts : Puts

-- operands, words taken and words put, and nothing else
abbrev pub plain : ℕ → ℕ → ℕ → Rule
plain o k g = record { operands = o; negative = false; takes = k; own = None; puts = words g }

-- operands and words taken, and an ending of its own
abbrev pub owning : ℕ → ℕ → Option Ending → Rule
owning o k c = record { operands = o; negative = false; takes = k; own = c; puts = words 0 }

abbrev pub divides : View → Option Ending
divides v = cond (is_zero v.top) (Some DivisorZero) None

abbrev pub reaches : ℤ → View → Option Ending
reaches a v = cond (among a v.used) None (Some IndexOutside)

abbrev pub jumps : View → Option Ending
jumps v = cond (starved v) (Some NoTurnLeft) None

-- turns are tested before depth
abbrev pub calls : View → Option Ending
calls v =
    cond (v.registers.turns == 0) (Some NoTurnLeft) (cond (nat_le v.deepest v.registers.depth) (Some TooDeep) None)

abbrev pub rule : Instruction → View → Rule
rule Csti v = plain 1 0 1
rule Add v = plain 0 2 0
rule Sub v = plain 0 2 0
rule Mul v = plain 0 2 0
rule Div v = owning 0 2 (divides v)
rule Mod v = owning 0 2 (divides v)
rule Eq v = plain 0 2 0
rule Lt v = plain 0 2 0
rule Not v = plain 0 1 0
rule Dup v = plain 0 1 1
rule Swap v = plain 0 2 0
rule Ldi v = owning 0 1 (reaches v.top v)
rule Sti v = owning 0 2 (reaches v.second v)
rule GetBp v = plain 0 0 1
rule GetSp v = plain 0 0 1
rule IncSp v = plain 1 (down v.x) (up v.x)
rule Goto v = owning 1 0 (jumps v)
rule IfZero v = owning 1 1 (cond (is_zero v.top) (jumps v) None)
rule IfNzro v = owning 1 1 (cond (is_zero v.top) None (jumps v))
rule Call v = record { operands = 2; negative = int_lt v.x (pos 0); takes = unsigned_abs v.x; own = calls v; puts = words 2 }
rule Tcall v = record {
  operands = 3;
  negative = either_negative v.x v.y;
  takes = framed v.x v.y;
  own = cond (v.registers.turns == 0) (Some NoTurnLeft) None;
  puts = words 0;
}
rule Ret v = record {
  operands = 1;
  negative = int_lt v.x (pos 0);
  takes = unsigned_abs v.x + 3;
  own = cond (v.registers.depth == 0) (Some NoCaller) None;
  puts = words 0;
}
rule Printi v = record { operands = 0; negative = false; takes = 1; own = None; puts = reading }
rule LdArgs v = plain 0 0 v.inputs
rule Stop v = owning 0 0 (Some Finished)

-- the first ending of two
abbrev pub first : Option Ending → Option Ending → Option Ending
first None later = later
first (Some c) later = Some c

-- whether there is room for what is put; `page` says whether the page takes one more reading
abbrev pub room : Puts → View → Bool → Option Ending
room (words g) v page = cond (nat_lt (v.capacity - v.used) g) (Some StackFull) None
room reading v page = cond page None (Some PageFull)

-- the tests of an instruction, in their order
abbrev pub judged : Rule → View → Bool → Option Ending
judged k v page =
    cond (nat_lt v.left k.operands) (Some OutsideCode)
    (cond k.negative (Some NegativeCount)
    (cond (nat_lt v.used k.takes) (Some TooFewWords)
    (first k.own (room k.puts v page))))

abbrev pub verdict : Instruction → Option Ending → Result Instruction Ending
verdict o None = Ok o
verdict o (Some c) = Err c

-- what is decided of a number before the page is asked
abbrev pub decided : Option Instruction → View → Result Instruction Ending
decided None v = Err UnknownInstruction
decided (Some o) v = verdict o (judged (rule o v) v true)

abbrev pub Fits : Puts → View → Type 0
Fits (words g) v = g ≤ v.capacity - v.used
Fits reading v = Unit {0}

-- an instruction that may go, if the page lets it
pub record Ready (k : Rule) (v : View) : Type 0 where
  pub operands : k.operands ≤ v.left
  pub negative : k.negative ≡ false
  pub takes : k.takes ≤ v.used
  pub own : k.own ≡ None
  pub fits : Fits k.puts v
