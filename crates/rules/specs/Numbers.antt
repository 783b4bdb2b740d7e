-- The numbers by which the code knows the instructions, and their law.
use Rattle.std.specs.Prelude.{◌≡◌, ℕ, ℤ, pos, Some}
use Rattle.rules.specs.declared.Instruction.{Instruction}
use Rattle.rules.specs.declared.Instruction.TheVariants.{Csti, Add, Sub, Mul, Div, Mod, Eq, Lt, Not, Dup, Swap, Ldi, Sti, GetBp, GetSp, IncSp, Goto, IfZero, IfNzro, Call, Tcall, Ret, Printi, LdArgs, Stop}
use Rattle.rules.specs.Rules.{decode}

-- an instruction's number
abbrev pub instruction_number : Instruction → ℕ
instruction_number Csti = 0
instruction_number Add = 1
instruction_number Sub = 2
instruction_number Mul = 3
instruction_number Div = 4
instruction_number Mod = 5
instruction_number Eq = 6
instruction_number Lt = 7
instruction_number Not = 8
instruction_number Dup = 9
instruction_number Swap = 10
instruction_number Ldi = 11
instruction_number Sti = 12
instruction_number GetBp = 13
instruction_number GetSp = 14
instruction_number IncSp = 15
instruction_number Goto = 16
instruction_number IfZero = 17
instruction_number IfNzro = 18
instruction_number Call = 19
instruction_number Tcall = 20
instruction_number Ret = 21
instruction_number Printi = 22
instruction_number LdArgs = 24
instruction_number Stop = 25

-- the law of numbers: an instruction's number names it, and no other number does
abbrev pub NumbersAgree : Type 0
NumbersAgree =
    ((i : Instruction) → decode (pos (instruction_number i)) ≡ Some i)
    × ((z : ℤ) (i : Instruction) → decode z ≡ Some i → z ≡ pos (instruction_number i))
