-- The cells of a draft, and what a draft begins with.
use Rattle.std.specs.Prelude.{ℕ, Bool, true, false, not, cond, List, [], ◌∷◌, get_or, Some, None, Option, slice_index_or}
use Rattle.rules.specs.declared.Instruction.{Instruction}
use Rattle.rules.specs.declared.Instruction.TheVariants.{Csti, Add, Sub, Mul, Div, Mod, Eq, Lt, Not, Dup, Swap, Ldi, Sti, GetBp, GetSp, IncSp, Goto, IfZero, IfNzro, Call, Tcall, Ret, Printi, LdArgs, Stop}
use Rattle.draft.specs.declared.cells.Place.{Place}
use Rattle.draft.specs.declared.cells.Word.{Word}
use Rattle.draft.specs.declared.cells.Word.TheVariants.{Opcode, Number, Count, To, Entry}
use Rattle.draft.specs.declared.cells.Cell.{Cell}
use Rattle.draft.specs.declared.cells.Condition.TheVariants.{Zero, Nonzero}
use Rattle.draft.specs.declared.cells.Head.{Head}
use Rattle.draft.specs.declared.cells.Head.TheVariants.{Adds, Scales, Equals, Negates, Pops, Jumps, Goes, Other}

-- what stands past the end
abbrev pub no_cell : Cell
no_cell = record { word = Count 0; mark = 0; label = true }

abbrev pub cell : Word → ℕ → Cell
cell w m = record { word = w; mark = m; label = false }

abbrev pub flagged : List Cell → List Cell
flagged [] = []
flagged (c ∷ D) = record { word = c.word; mark = c.mark; label = true } ∷ D

-- what an operand says of the instruction before it
abbrev pub on_to : Word → (Place → Head) → Head
on_to (Opcode o) f = Other
on_to (Number i) f = Other
on_to (Count n) f = Other
on_to (To p) f = f p
on_to (Entry f) g = Other

abbrev pub on_number : Word → Head → Head
on_number (Opcode o) h = Other
on_number (Number i) h = h
on_number (Count n) h = Other
on_number (To p) h = Other
on_number (Entry f) h = Other

abbrev pub head_of_opcode : Instruction → ℕ → Word → Head
head_of_opcode Csti m w = Other
head_of_opcode Add m w = Adds
head_of_opcode Sub m w = Adds
head_of_opcode Mul m w = Scales
head_of_opcode Div m w = Scales
head_of_opcode Mod m w = Other
head_of_opcode Eq m w = Equals m
head_of_opcode Lt m w = Other
head_of_opcode Not m w = Negates
head_of_opcode Dup m w = Other
head_of_opcode Swap m w = Other
head_of_opcode Ldi m w = Other
head_of_opcode Sti m w = Other
head_of_opcode GetBp m w = Other
head_of_opcode GetSp m w = Other
head_of_opcode IncSp m w = on_number w Pops
head_of_opcode Goto m w = on_to w Goes
head_of_opcode IfZero m w = on_to w (λ p. Jumps Zero p m)
head_of_opcode IfNzro m w = on_to w (λ p. Jumps Nonzero p m)
head_of_opcode Call m w = Other
head_of_opcode Tcall m w = Other
head_of_opcode Ret m w = Other
head_of_opcode Printi m w = Other
head_of_opcode LdArgs m w = Other
head_of_opcode Stop m w = Other

abbrev pub head_of_word : Word → ℕ → Word → Head
head_of_word (Opcode o) m w = head_of_opcode o m w
head_of_word (Number i) m w = Other
head_of_word (Count n) m w = Other
head_of_word (To p) m w = Other
head_of_word (Entry f) m w = Other

abbrev pub head_of_cells : Cell → Cell → Head
head_of_cells c d = cond c.label Other (head_of_word c.word c.mark d.word)

abbrev pub head_of : List Cell → Head
head_of D = head_of_cells (slice_index_or D 0 no_cell) (slice_index_or D 1 no_cell)

abbrev pub unlabelled : Cell → Bool
unlabelled c = not c.label

-- up to the next label
abbrev pub dead_cells : List Cell → List Cell
dead_cells [] = []
dead_cells (c ∷ D) = cond c.label (c ∷ D) (dead_cells D)

-- a return at the front, labelled or not
abbrev pub count_of : Word → Option ℕ
count_of (Opcode o) = None
count_of (Number i) = None
count_of (Count n) = Some n
count_of (To p) = None
count_of (Entry f) = None

abbrev pub return_of_opcode : Instruction → Word → Option ℕ
return_of_opcode Csti w = None
return_of_opcode Add w = None
return_of_opcode Sub w = None
return_of_opcode Mul w = None
return_of_opcode Div w = None
return_of_opcode Mod w = None
return_of_opcode Eq w = None
return_of_opcode Lt w = None
return_of_opcode Not w = None
return_of_opcode Dup w = None
return_of_opcode Swap w = None
return_of_opcode Ldi w = None
return_of_opcode Sti w = None
return_of_opcode GetBp w = None
return_of_opcode GetSp w = None
return_of_opcode IncSp w = None
return_of_opcode Goto w = None
return_of_opcode IfZero w = None
return_of_opcode IfNzro w = None
return_of_opcode Call w = None
return_of_opcode Tcall w = None
return_of_opcode Ret w = count_of w
return_of_opcode Printi w = None
return_of_opcode LdArgs w = None
return_of_opcode Stop w = None

abbrev pub return_of_word : Word → Word → Option ℕ
return_of_word (Opcode o) w = return_of_opcode o w
return_of_word (Number i) w = None
return_of_word (Count n) w = None
return_of_word (To p) w = None
return_of_word (Entry f) w = None

abbrev pub return_of : List Cell → Option ℕ
return_of D = return_of_word (get_or D 0 no_cell).word (get_or D 1 no_cell).word
