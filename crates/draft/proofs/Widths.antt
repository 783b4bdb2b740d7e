-- An instruction that stands in a draft has its operand there.
use Rattle.std.proofs.Common.{◌≡◌, ℕ, ◌+◌, ◌≤◌, Bool, true, false, cond, List, [], ◌∷◌, length, drop, ap, arith, lit≤, length-drop}
use Rattle.draft.specs.Cells.{on_to, on_number, head_of_opcode, head_of_word, head_of}
use Rattle.rules.specs.declared.Instruction.{Instruction}
use Rattle.rules.specs.declared.Instruction.TheVariants.{Csti, Add, Sub, Mul, Div, Mod, Eq, Lt, Not, Dup, Swap, Ldi, Sti, GetBp, GetSp, IncSp, Goto, IfZero, IfNzro, Call, Tcall, Ret, Printi, LdArgs, Stop}
use Rattle.draft.specs.declared.cells.Place.{Place}
use Rattle.draft.specs.declared.cells.Word.{Word}
use Rattle.draft.specs.declared.cells.Word.TheVariants.{Opcode, Number, Count, To, Entry}
use Rattle.draft.specs.declared.cells.Cell.{Cell}
use Rattle.draft.specs.declared.cells.Condition.TheVariants.{Zero, Nonzero}
use Rattle.draft.specs.declared.cells.Head.{Head}
use Rattle.draft.specs.declared.cells.Head.TheVariants.{Adds, Scales, Equals, Negates, Pops, Jumps, Goes, Other}

-- how many cells there are at least where the code begins so
abbrev pub wide : Head → ℕ
wide Adds = 1
wide Scales = 1
wide (Equals m) = 1
wide Negates = 1
wide Pops = 2
wide (Jumps c p m) = 2
wide (Goes p) = 2
wide Other = 0

wide_to : (w : Word) (f : Place → Head) → ((p : Place) → wide (f p) ≤ 2) → wide (on_to w f) ≤ 2
wide_to (Opcode o) f h = lit≤ tt
wide_to (Number i) f h = lit≤ tt
wide_to (Count n) f h = lit≤ tt
wide_to (To p) f h = h p
wide_to (Entry g) f h = lit≤ tt

wide_number : (w : Word) → wide (on_number w Pops) ≤ 2
wide_number (Opcode o) = lit≤ tt
wide_number (Number i) = lit≤ tt
wide_number (Count n) = lit≤ tt
wide_number (To p) = lit≤ tt
wide_number (Entry g) = lit≤ tt

wide_two : (o : Instruction) (m : ℕ) (w : Word) → wide (head_of_opcode o m w) ≤ 2
wide_two Csti m w = lit≤ tt
wide_two Add m w = lit≤ tt
wide_two Sub m w = lit≤ tt
wide_two Mul m w = lit≤ tt
wide_two Div m w = lit≤ tt
wide_two Mod m w = lit≤ tt
wide_two Eq m w = lit≤ tt
wide_two Lt m w = lit≤ tt
wide_two Not m w = lit≤ tt
wide_two Dup m w = lit≤ tt
wide_two Swap m w = lit≤ tt
wide_two Ldi m w = lit≤ tt
wide_two Sti m w = lit≤ tt
wide_two GetBp m w = lit≤ tt
wide_two GetSp m w = lit≤ tt
wide_two IncSp m w = wide_number w
wide_two Goto m w = wide_to w Goes (λ p. lit≤ tt)
wide_two IfZero m w = wide_to w (λ p. Jumps Zero p m) (λ p. lit≤ tt)
wide_two IfNzro m w = wide_to w (λ p. Jumps Nonzero p m) (λ p. lit≤ tt)
wide_two Call m w = lit≤ tt
wide_two Tcall m w = lit≤ tt
wide_two Ret m w = lit≤ tt
wide_two Printi m w = lit≤ tt
wide_two LdArgs m w = lit≤ tt
wide_two Stop m w = lit≤ tt

wide_one : (o : Instruction) (m : ℕ) → wide (head_of_opcode o m (Count 0)) ≤ 1
wide_one Csti m = lit≤ tt
wide_one Add m = lit≤ tt
wide_one Sub m = lit≤ tt
wide_one Mul m = lit≤ tt
wide_one Div m = lit≤ tt
wide_one Mod m = lit≤ tt
wide_one Eq m = lit≤ tt
wide_one Lt m = lit≤ tt
wide_one Not m = lit≤ tt
wide_one Dup m = lit≤ tt
wide_one Swap m = lit≤ tt
wide_one Ldi m = lit≤ tt
wide_one Sti m = lit≤ tt
wide_one GetBp m = lit≤ tt
wide_one GetSp m = lit≤ tt
wide_one IncSp m = lit≤ tt
wide_one Goto m = lit≤ tt
wide_one IfZero m = lit≤ tt
wide_one IfNzro m = lit≤ tt
wide_one Call m = lit≤ tt
wide_one Tcall m = lit≤ tt
wide_one Ret m = lit≤ tt
wide_one Printi m = lit≤ tt
wide_one LdArgs m = lit≤ tt
wide_one Stop m = lit≤ tt

wide_word : (u w : Word) (m : ℕ) → wide (head_of_word u m w) ≤ 2
wide_word (Opcode o) w m = wide_two o m w
wide_word (Number i) w m = lit≤ tt
wide_word (Count n) w m = lit≤ tt
wide_word (To p) w m = lit≤ tt
wide_word (Entry f) w m = lit≤ tt

wide_last : (u : Word) (m : ℕ) → wide (head_of_word u m (Count 0)) ≤ 1
wide_last (Opcode o) m = wide_one o m
wide_last (Number i) m = lit≤ tt
wide_last (Count n) m = lit≤ tt
wide_last (To p) m = lit≤ tt
wide_last (Entry f) m = lit≤ tt

wide_cond : (b : Bool) (h : Head) (k : ℕ) → wide h ≤ k → wide (cond b Other h) ≤ k
wide_cond true h k l = omega arith
wide_cond false h k l = l

-- an instruction that stands has its operand
pub wide_head : (D : List Cell) → wide (head_of D) ≤ length D
wide_head [] = lit≤ tt
wide_head (c ∷ []) = wide_cond c.label _ 1 (wide_last c.word c.mark)
wide_head (c ∷ (d ∷ D)) = let h : wide (head_of (c ∷ (d ∷ D))) ≤ 2 = wide_cond c.label _ 2 (wide_word c.word d.word c.mark) in omega arith

-- the same of the end of a table
pub wide_at : (xs : List Cell) (i : ℕ) (h : Head) → h ≡ head_of (drop i xs) → i ≤ length xs → i + wide h ≤ length xs
wide_at xs i h e l = omega (arith, wide_head (drop i xs), ap wide e, length-drop i xs)
