-- The machine takes each number for its instruction.
use Rattle.std.proofs.Common.{◌≡◌, pos, Some, refl}
use Rattle.rules.specs.Rules.{decode}
use Rattle.rules.specs.declared.Instruction.{Instruction}
use Rattle.rules.specs.declared.Instruction.TheVariants.{Csti, Add, Sub, Mul, Div, Mod, Eq, Lt, Not, Dup, Swap, Ldi, Sti, GetBp, GetSp, IncSp, Goto, IfZero, IfNzro, Call, Tcall, Ret, Printi, LdArgs, Stop}
use Rattle.scheme.specs.Written.{number}

pub decodes : (i : Instruction) → decode (pos (number i)) ≡ Some i
decodes Csti = refl
decodes Add = refl
decodes Sub = refl
decodes Mul = refl
decodes Div = refl
decodes Mod = refl
decodes Eq = refl
decodes Lt = refl
decodes Not = refl
decodes Dup = refl
decodes Swap = refl
decodes Ldi = refl
decodes Sti = refl
decodes GetBp = refl
decodes GetSp = refl
decodes IncSp = refl
decodes Goto = refl
decodes IfZero = refl
decodes IfNzro = refl
decodes Call = refl
decodes Tcall = refl
decodes Ret = refl
decodes Printi = refl
decodes LdArgs = refl
decodes Stop = refl
