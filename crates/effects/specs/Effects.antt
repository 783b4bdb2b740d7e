-- What an instruction that may go does to the state of the machine.
use Rattle.std.specs.Prelude.{◌≡◌, ℕ, ◌+◌, ◌-◌, max, Bool, cond, not, List, replicate, ℤ, pos, ◌+ℤ◌, ◌-ℤ◌, ◌*ℤ◌, Some, None, Ok, Err, Option, Result, int_div, int_le, int_lt, int_rem, slice_index_or, slice_set, unsigned_abs}
use Rattle.std.specs.Int.{int_wrap, w32}
use Rattle.std.proofs.Math.Seq.{paste}
use Rattle.answer.specs.declared.Ending.{Ending}
use Rattle.answer.specs.declared.Ending.TheVariants.{PageFull}
use Rattle.stack.specs.Entries.{opened, closed}
use Rattle.board.specs.Meaning.{Means, has_room, printed}
use Rattle.rules.specs.declared.View.{View}
use Rattle.rules.specs.declared.Registers.{Registers}
use Rattle.rules.specs.declared.Instruction.{Instruction}
use Rattle.rules.specs.declared.Instruction.TheVariants.{Csti, Add, Sub, Mul, Div, Mod, Eq, Lt, Not, Dup, Swap, Ldi, Sti, GetBp, GetSp, IncSp, Goto, IfZero, IfNzro, Call, Tcall, Ret, Printi, LdArgs, Stop}
use Rattle.rules.specs.Rules.{up, down, is_zero, rule, Puts, words, reading}

-- the whole stack memory and how many of its words are in use; what the board means; the registers
pub record State : Type 0 where
  pub words : List ℤ
  pub used : ℕ
  pub board : Means
  pub registers : Registers

abbrev pub state : List ℤ → ℕ → Means → Registers → State
state ws used board r = record { words = ws; used = used; board = board; registers = r }

-- what comes of an instruction: the run goes on in another state, or ends and nothing has changed
pub data Next : Type 0 where
  goes : State → Next
  halts : Ending → Next

-- 32-bit arithmetic: what leaves the range comes round; division cuts towards zero
abbrev pub sum : ℤ → ℤ → ℤ
sum a b = int_wrap w32 (a +ℤ b)

abbrev pub difference : ℤ → ℤ → ℤ
difference a b = int_wrap w32 (a -ℤ b)

abbrev pub product : ℤ → ℤ → ℤ
product a b = int_wrap w32 (a *ℤ b)

unfoldable pub quotient : ℤ → ℤ → ℤ
quotient a b = int_wrap w32 (int_div a b)

abbrev pub truth : Bool → ℤ
truth b = cond b (pos 1) (pos 0)

abbrev pub same : ℤ → ℤ → Bool
same a b = is_zero (a -ℤ b)

-- the registers after an instruction with o operands that goes on behind them
abbrev pub past : Registers → ℕ → Registers
past r o = record { position = r.position +ℤ pos (o + 1); base = r.base; turns = r.turns; depth = r.depth; deepest = r.deepest }

-- after a jump to p: one turn less if it goes to its own position or back
abbrev pub jumped : Registers → ℤ → Registers
jumped r p = record { position = p; base = r.base; turns = cond (int_le p r.position) (r.turns - 1) r.turns; depth = r.depth; deepest = r.deepest }

abbrev pub branched : Registers → ℤ → Bool → Registers
branched r p taken = cond taken (jumped r p) (past r 1)

-- after a call to p, whose link words stand at `from` and the one above it
abbrev pub entered : Registers → ℤ → ℕ → Registers
entered r p from = record { position = p; base = pos (from + 2); turns = r.turns - 1; depth = r.depth + 1; deepest = max r.deepest (r.depth + 1) }

-- after a replacing call to p
abbrev pub replaced : Registers → ℤ → Registers
replaced r p = record { position = p; base = r.base; turns = r.turns - 1; depth = r.depth; deepest = r.deepest }

-- after a return to p, where the base is b
abbrev pub returned : Registers → ℤ → ℤ → Registers
returned r p b = record { position = p; base = b; turns = r.turns; depth = r.depth - 1; deepest = r.deepest }

-- the state with x as its top word, at n
abbrev pub topped : State → ℕ → ℤ → Registers → State
topped s n x r = record { words = slice_set s.words n x; used = n + 1; board = s.board; registers = r }

-- the state with other words, so many of them in use
abbrev pub holding : State → List ℤ → ℕ → Registers → State
holding s ws used r = record { words = ws; used = used; board = s.board; registers = r }

-- where a return of m words finds its link: the position to go on at, and above it the base
abbrev pub link : View → ℕ
link v = v.used - (unsigned_abs v.x + 3)

abbrev pub effect : Instruction → View → State → State
effect Csti v s = topped s v.used v.x (past v.registers 1)
effect Add v s = topped s (v.used - 2) (sum v.second v.top) (past v.registers 0)
effect Sub v s = topped s (v.used - 2) (difference v.second v.top) (past v.registers 0)
effect Mul v s = topped s (v.used - 2) (product v.second v.top) (past v.registers 0)
effect Div v s = topped s (v.used - 2) (quotient v.second v.top) (past v.registers 0)
effect Mod v s = topped s (v.used - 2) (int_rem v.second v.top) (past v.registers 0)
effect Eq v s = topped s (v.used - 2) (truth (same v.second v.top)) (past v.registers 0)
effect Lt v s = topped s (v.used - 2) (truth (int_lt v.second v.top)) (past v.registers 0)
effect Not v s = topped s (v.used - 1) (truth (is_zero v.top)) (past v.registers 0)
effect Dup v s = topped s v.used v.top (past v.registers 0)
effect Swap v s = holding s (slice_set (slice_set s.words (v.used - 2) v.top) (v.used - 1) v.second) v.used (past v.registers 0)
effect Ldi v s = topped s (v.used - 1) (slice_index_or s.words (unsigned_abs v.top) (pos 0)) (past v.registers 0)
effect Sti v s = holding s (slice_set (slice_set s.words (unsigned_abs v.second) v.top) (v.used - 2) v.top) (v.used - 1) (past v.registers 0)
effect GetBp v s = topped s v.used v.registers.base (past v.registers 0)
effect GetSp v s = topped s v.used (pos v.used -ℤ pos 1) (past v.registers 0)
effect IncSp v s = holding s (paste s.words v.used (replicate (up v.x) (pos 0)) (up v.x)) (v.used + up v.x - down v.x) (past v.registers 1)
effect Goto v s = holding s s.words v.used (jumped v.registers v.x)
effect IfZero v s = holding s s.words (v.used - 1) (branched v.registers v.x (is_zero v.top))
effect IfNzro v s = holding s s.words (v.used - 1) (branched v.registers v.x (not (is_zero v.top)))
effect Call v s = holding s (opened s.words v.used (unsigned_abs v.x) (v.registers.position +ℤ pos 3) v.registers.base) (v.used + 2) (entered v.registers v.y (v.used - unsigned_abs v.x))
effect Tcall v s = holding s (closed s.words v.used (unsigned_abs v.x) (unsigned_abs v.y)) (v.used - unsigned_abs v.y) (replaced v.registers v.z)
effect Ret v s = topped s (link v) v.top (returned v.registers (slice_index_or s.words (link v) (pos 0)) (slice_index_or s.words (v.used - (unsigned_abs v.x + 2)) (pos 0)))
effect Printi v s = record { words = s.words; used = v.used; board = printed v.top s.board; registers = past v.registers 0 }
effect LdArgs v s = holding s (paste s.words v.used s.board.inputs v.inputs) (v.used + v.inputs) (past v.registers 0)
effect Stop v s = s

abbrev pub unless : Option Ending → State → Next
unless None t = goes t
unless (Some c) t = halts c

-- for an instruction that is ready, only a full page may still end the run
abbrev pub late : Puts → Bool → Option Ending
late (words g) page = None
late reading page = cond page None (Some PageFull)

abbrev pub performed : Instruction → View → State → Next
performed o v s = unless (late (rule o v).puts (has_room s.board)) (effect o v s)

-- a call's result beside what it left: new registers, and the state is the next one; or an ending, and the state is the old one
abbrev pub Tells : Next → Result Registers Ending → State → (Registers → State) → Type 0
Tells next (Ok r) old left = next ≡ goes (left r)
Tells next (Err c) old left = (next ≡ halts c) × (left old.registers ≡ old)
