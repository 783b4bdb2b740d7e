-- An instruction's number and what it names undo one another.
use Rattle.std.proofs.Common.{◌≡◌, ℕ, zero, suc, ◌+◌, List, [], ◌∷◌, ℤ, pos, negsuc, Some, None, Option, refl, ap, arith}
use Rattle.rules.specs.declared.Instruction.{Instruction}
use Rattle.rules.specs.declared.Instruction.TheVariants.{Csti, Add, Sub, Mul, Div, Mod, Eq, Lt, Not, Dup, Swap, Ldi, Sti, GetBp, GetSp, IncSp, Goto, IfZero, IfNzro, Call, Tcall, Ret, Printi, LdArgs, Stop}
use Rattle.rules.specs.Numbers.{instruction_number, NumbersAgree}
use Rattle.rules.specs.Rules.{listed, numbered, decode}

named_back : (i : Instruction) → decode (pos (instruction_number i)) ≡ Some i
named_back Csti = refl
named_back Add = refl
named_back Sub = refl
named_back Mul = refl
named_back Div = refl
named_back Mod = refl
named_back Eq = refl
named_back Lt = refl
named_back Not = refl
named_back Dup = refl
named_back Swap = refl
named_back Ldi = refl
named_back Sti = refl
named_back GetBp = refl
named_back GetSp = refl
named_back IncSp = refl
named_back Goto = refl
named_back IfZero = refl
named_back IfNzro = refl
named_back Call = refl
named_back Tcall = refl
named_back Ret = refl
named_back Printi = refl
named_back LdArgs = refl
named_back Stop = refl

-- each instruction of a list has the number at which it stands, counted from k
abbrev Stand : List (Option Instruction) → ℕ → Type 0
Stand [] k = Unit {0}
Stand (None ∷ t) k = Stand t (suc k)
Stand (Some i ∷ t) k = (instruction_number i ≡ k) × Stand t (suc k)

stands : (t : List (Option Instruction)) (k n : ℕ) (i : Instruction) → Stand t k → listed t n ≡ Some i → n + k ≡ instruction_number i
stands [] k n i s e = let z : ◌≡◌ {A = ℕ} 0 1 = cc in absurd (omega arith)
stands (None ∷ t) k zero i s e = let z : ◌≡◌ {A = ℕ} 0 1 = cc in absurd (omega arith)
stands (None ∷ t) k (suc n) i s e = let h = stands t (suc k) n i s e in omega arith
stands (Some j ∷ t) k zero i s e =
    let q : i ≡ j = cc in
    let h = ap instruction_number q in
    omega arith
stands (Some j ∷ t) k (suc n) i s e = let h = stands t (suc k) n i s.1 e in omega arith

standing : Stand numbered 0
standing = (refl, (refl, (refl, (refl, (refl, (refl, (refl, (refl, (refl, (refl, (refl, (refl, (refl, (refl, (refl, (refl, (refl, (refl, (refl, (refl, (refl, (refl, (refl, (refl, (refl, tt)))))))))))))))))))))))))

numbered_by : (z : ℤ) (i : Instruction) → decode z ≡ Some i → z ≡ pos (instruction_number i)
numbered_by (pos n) i e = let h = stands numbered 0 n i standing e in ap pos (omega arith)
numbered_by (negsuc n) i e = let z : ◌≡◌ {A = ℕ} 0 1 = cc in absurd (omega arith)

pub numbers_agree : NumbersAgree
numbers_agree = (named_back, numbered_by)
