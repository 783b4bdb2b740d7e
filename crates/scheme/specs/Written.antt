-- The words of code: numbers with every target resolved to its position, and beside each word its mark.
use Rattle.std.specs.Prelude.{ℕ, zero, suc, ◌-◌, Bool, false, cond, List, [], ◌∷◌, ◌++◌, length, replicate, ℤ, pos, negsuc, nat_eq, nat_lt}
use Rattle.answer.specs.Numbers.{no_place}
use Rattle.rules.specs.Limits.{code_limit}
use Rattle.rules.specs.declared.Instruction.{Instruction}
use Rattle.rules.specs.declared.Instruction.TheVariants.{Csti, Add, Sub, Mul, Div, Mod, Eq, Lt, Not, Dup, Swap, Ldi, Sti, GetBp, GetSp, IncSp, Goto, IfZero, IfNzro, Call, Tcall, Ret, Printi, LdArgs, Stop}
use Rattle.meaning.specs.Tree.{Script}
use Rattle.scheme.specs.Code.{Code, Plain, Target, Item, width, size}
use Rattle.scheme.specs.Code
use Rattle.scheme.specs.Scheme.{script_code}

-- an instruction's number: the machine knows it by that
abbrev pub number : Instruction → ℕ
number Csti = 0
number Add = 1
number Sub = 2
number Mul = 3
number Div = 4
number Mod = 5
number Eq = 6
number Lt = 7
number Not = 8
number Dup = 9
number Swap = 10
number Ldi = 11
number Sti = 12
number GetBp = 13
number GetSp = 14
number IncSp = 15
number Goto = 16
number IfZero = 17
number IfNzro = 18
number Call = 19
number Tcall = 20
number Ret = 21
number Printi = 22
number LdArgs = 24
number Stop = 25

abbrev pub instruction : Plain → Instruction
instruction Code.add = Add
instruction Code.sub = Sub
instruction Code.mul = Mul
instruction Code.div = Div
instruction Code.rem = Mod
instruction Code.eq = Eq
instruction Code.lt = Lt
instruction Code.not = Not
instruction Code.dup = Dup
instruction Code.swap = Swap
instruction Code.ldi = Ldi
instruction Code.sti = Sti
instruction Code.getbp = GetBp
instruction Code.printi = Printi

-- the labels that are looked for: starts of whiles, and entries of functions
module _ (is_loop is_entry : ℕ → Bool) where
  abbrev pub sought : Item → Bool
  sought (Code.csti v m) = false
  sought (Code.plain p m) = false
  sought (Code.pop m) = false
  sought (Code.goto t m) = false
  sought (Code.ifzero t m) = false
  sought (Code.ifnzro t m) = false
  sought (Code.call k f m) = false
  sought (Code.tcall k n f m) = false
  sought (Code.ret n m) = false
  sought Code.ldargs = false
  sought Code.stop = false
  sought Code.label = false
  sought (Code.loop_at w) = is_loop w
  sought (Code.entry f) = is_entry f

  -- the length of the code behind the first of them, up to the end
  abbrev pub size_behind : Code → ℕ
  size_behind [] = 0
  size_behind (i ∷ C) = cond (sought i) (size C) (size_behind C)

abbrev pub none_of : ℕ → Bool
none_of n = false

-- the length from the start of the while w on, and from the entry of the function f on
abbrev pub loop_end : Code → ℕ → ℕ
loop_end P w = size_behind (nat_eq w) none_of P

abbrev pub entry_end : Code → ℕ → ℕ
entry_end P f = size_behind none_of (nat_eq f) P

-- words, in code of `whole` words: a position is what comes before the length from there on
module _ (loops entries : ℕ → ℕ) (whole : ℕ) where
  abbrev pub position : Target → ℤ
  position (Code.behind n) = pos (whole - n)
  position (Code.loop w) = pos (whole - loops w)

  abbrev pub item_words : Item → List ℤ
  item_words (Code.csti v m) = pos (number Csti) ∷ v ∷ []
  item_words (Code.plain p m) = pos (number (instruction p)) ∷ []
  item_words (Code.pop m) = pos (number IncSp) ∷ negsuc 0 ∷ []
  item_words (Code.goto t m) = pos (number Goto) ∷ position t ∷ []
  item_words (Code.ifzero t m) = pos (number IfZero) ∷ position t ∷ []
  item_words (Code.ifnzro t m) = pos (number IfNzro) ∷ position t ∷ []
  item_words (Code.call k f m) = pos (number Call) ∷ pos k ∷ pos (whole - entries f) ∷ []
  item_words (Code.tcall k n f m) = pos (number Tcall) ∷ pos k ∷ pos n ∷ pos (whole - entries f) ∷ []
  item_words (Code.ret n m) = pos (number Ret) ∷ pos n ∷ []
  item_words Code.ldargs = pos (number LdArgs) ∷ []
  item_words Code.stop = pos (number Stop) ∷ []
  item_words Code.label = []
  item_words (Code.loop_at w) = []
  item_words (Code.entry f) = []

  abbrev pub code_words : Code → List ℤ
  code_words [] = []
  code_words (i ∷ C) = item_words i ++ code_words C

-- a jump to the start of a while carries the while's node, whichever node it was written for
abbrev pub jump_mark : Target → ℕ → ℕ
jump_mark (Code.behind n) m = m
jump_mark (Code.loop w) m = w

abbrev pub mark_of : Item → ℕ
mark_of (Code.csti v m) = m
mark_of (Code.plain p m) = m
mark_of (Code.pop m) = m
mark_of (Code.goto t m) = jump_mark t m
mark_of (Code.ifzero t m) = jump_mark t m
mark_of (Code.ifnzro t m) = jump_mark t m
mark_of (Code.call k f m) = m
mark_of (Code.tcall k n f m) = m
mark_of (Code.ret n m) = m
mark_of Code.ldargs = no_place
mark_of Code.stop = no_place
mark_of Code.label = no_place
mark_of (Code.loop_at w) = no_place
mark_of (Code.entry f) = no_place

-- one mark for each word
abbrev pub code_marks : Code → List ℕ
code_marks [] = []
code_marks (i ∷ C) = replicate (width i) (mark_of i) ++ code_marks C

-- the words of whole code, its own loops and entries resolved
abbrev pub whole_words : Code → List ℤ
whole_words P = code_words (loop_end P) (entry_end P) (size P) P

-- the positions of the entries of the n functions from number f on
abbrev pub entries_from : Code → ℕ → ℕ → List ℕ
entries_from P f zero = []
entries_from P f (suc n) = (size P - entry_end P f) ∷ entries_from P (suc f) n

-- what is written for a script: words, a mark for each word, and where each function enters
pub record Written : Type 0 where
  pub words : List ℤ
  pub marks : List ℕ
  pub entries : List ℕ

abbrev pub written : Script → Written
written s =
    let P = script_code s in
    record { words = whole_words P; marks = code_marks P; entries = entries_from P 0 (length s.functions) }

-- code that is refused for its length
abbrev pub too_long : Script → Bool
too_long s = nat_lt code_limit (size (script_code s))
