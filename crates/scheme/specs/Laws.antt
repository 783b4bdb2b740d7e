-- Laws of the code that is written for scripts.
use Rattle.std.specs.Prelude.{◌≡◌, ℕ, suc, ◌+◌, ◌<◌, ◌≤◌, Bool, true, false, List, [], ◌∷◌, length, ℤ, pos, Some, nat_eq}
use Rattle.rules.specs.Rules.{decode}
use Rattle.rules.specs.declared.Instruction.{Instruction}
use Rattle.meaning.specs.Tree.{Expr, Args, Stmt, Function, Script}
use Rattle.meaning.specs.Tree
use Rattle.scheme.specs.Code.{Code, Target, Item, is_label, size}
use Rattle.scheme.specs.Code
use Rattle.scheme.specs.Writing.{add_goto, add_not, add_cst, labelled, left_jump, add_jump}
use Rattle.scheme.specs.Scheme.{expr_code, args_code, stmt_code, functions_code, script_code}
use Rattle.scheme.specs.Written.{number, loop_end, entry_end, written, sought}

-- D is an end of C
pub data Suffix (D : Code) : Code → Type 0 where
  same : Suffix D D
  more : {i : Item} {C : Code} → Suffix D C → Suffix D (i ∷ C)

-- code that begins with a label, or the end of all code
abbrev pub Labelled : Code → Type 0
Labelled [] = Unit {0}
Labelled (i ∷ C) = is_label i ≡ true

-- C' has each labelled end of C, whole and unchanged
abbrev pub Keeps : Code → Code → Type 0
Keeps C' C = (D : Code) → Labelled D → Suffix D C → Suffix D C'

-- whatever is written in front of code keeps its labelled ends
abbrev pub LabelsStay : Type 0
LabelsStay =
    ((t : Target) (m : ℕ) (C : Code) → Keeps (add_goto t m C) C)
    × ((m : ℕ) (C : Code) → Keeps (add_not m C) C)
    × ((v : ℤ) (m : ℕ) (C : Code) → Keeps (add_cst v m C) C)
    × ((C : Code) → Keeps (labelled C) C × Keeps (left_jump C) C)
    × ((C : Code) (m : ℕ) (D : Code) → Keeps (add_jump C m D) D)
    × ((lengths : List ℕ) (e : Expr) (C : Code) → Keeps (expr_code lengths e C) C)
    × ((lengths : List ℕ) (l : Args) (C : Code) → Keeps (args_code lengths l C) C)
    × ((lengths : List ℕ) (total : ℕ) (s : Stmt) (C : Code) → Keeps (stmt_code lengths total s C) C)
    × ((lengths : List ℕ) (f : ℕ) (fn : Function) (fns : List Function) → Keeps (functions_code lengths f (fn ∷ fns)) (functions_code lengths (suc f) fns))

-- an item that jumps to t
pub data JumpTo (t : Target) : Item → Type 0 where
  by_goto : (m : ℕ) → JumpTo t (Code.goto t m)
  by_ifzero : (m : ℕ) → JumpTo t (Code.ifzero t m)
  by_ifnzro : (m : ℕ) → JumpTo t (Code.ifnzro t m)

-- a jump that is not to the start of a while goes forward, to a label in the code that follows it
abbrev pub JumpsForward : Type 0
JumpsForward =
    (s : Script) (n : ℕ) (i : Item) (C : Code) → JumpTo (Code.behind n) i → Suffix (i ∷ C) (script_code s)
    → (j : Item) × (D : Code) × (is_label j ≡ true) × Suffix (j ∷ D) C × (size D ≡ n)

-- a jump to the start of a while stands behind that start: it goes back, or to itself
abbrev pub JumpsBack : Type 0
JumpsBack =
    (s : Script) (w : ℕ) (i : Item) (C : Code) → JumpTo (Code.loop w) i → Suffix (i ∷ C) (script_code s)
    → (D : Code) × Suffix (Code.loop_at w ∷ D) (script_code s) × Suffix (i ∷ C) D × (size (i ∷ C) ≤ loop_end (script_code s) w)

-- one more, if so
abbrev pub plus : Bool → ℕ → ℕ
plus true n = suc n
plus false n = n

-- how many whiles, of those looked for, a script has
module _ (is_loop : ℕ → Bool) where
  abbrev pub whiles : Stmt → ℕ
  whiles (Tree.nothing n) = 0
  whiles (Tree.chain n a b) = whiles a + whiles b
  whiles (Tree.discard n e) = 0
  whiles (Tree.if n e a b) = whiles a + whiles b
  whiles (Tree.while n e b) = plus (is_loop n) (whiles b)
  whiles (Tree.return n e) = 0
  whiles (Tree.replace n m f l) = 0

  abbrev pub all_whiles : List Function → ℕ
  all_whiles [] = 0
  all_whiles (f ∷ fs) = whiles f.body + all_whiles fs

-- how many labels, of those looked for, code has
module _ (is_loop is_entry : ℕ → Bool) where
  abbrev pub tally : Code → ℕ
  tally [] = 0
  tally (i ∷ C) = plus (sought is_loop is_entry i) (tally C)

-- no two whiles have one node
abbrev pub Distinct : List Function → Type 0
Distinct fns = (w : ℕ) → all_whiles (nat_eq w) fns ≤ 1

-- a while starts, and a function enters, where the positions say
abbrev pub LabelsFound : Type 0
LabelsFound =
    (s : Script) → (Distinct s.functions → (w : ℕ) (D : Code) → Suffix (Code.loop_at w ∷ D) (script_code s) → loop_end (script_code s) w ≡ size D)
    × ((f : ℕ) (D : Code) → Suffix (Code.entry f ∷ D) (script_code s) → entry_end (script_code s) f ≡ size D)
    × ((f : ℕ) → f < length s.functions → (D : Code) × Suffix (Code.entry f ∷ D) (script_code s))

-- as many words and marks as the code is long, and an entry for each function
abbrev pub LengthsAgree : Type 0
LengthsAgree =
    (s : Script) → (length (written s).words ≡ size (script_code s))
    × (length (written s).marks ≡ size (script_code s))
    × (length (written s).entries ≡ length s.functions)

-- the machine takes an instruction's number for that instruction
abbrev pub NumbersDecode : Type 0
NumbersDecode = (i : Instruction) → decode (pos (number i)) ≡ Some i
