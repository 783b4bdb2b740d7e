-- Symbolic code: instructions with their marks and labels of no width, first instruction first; and what can be seen at its front.
use Rattle.std.specs.Prelude.{ℕ, ◌+◌, Bool, true, false, List, [], ◌∷◌, ℤ}

-- the instructions without operands that stand for parts of a script
pub data Plain : Type 0 where
  add sub mul div rem eq lt not dup swap ldi sti getbp printi : Plain

-- where a jump goes: to the code whose length in words, up to the end, is n; or to the start of the while w
pub data Target : Type 0 where
  behind : ℕ → Target
  loop : ℕ → Target

-- Instructions have their operands first and their mark last; `pop` is INCSP -1. A call names the count of its arguments and its function;
-- a replacing call has between these the count of words that its caller has. The opening's LDARGS and STOP have no node.
-- Labels: some label, the start of the while w, the entry of the function f.
pub data Item : Type 0 where
  csti : ℤ → ℕ → Item
  plain : Plain → ℕ → Item
  pop : ℕ → Item
  goto : Target → ℕ → Item
  ifzero : Target → ℕ → Item
  ifnzro : Target → ℕ → Item
  call : ℕ → ℕ → ℕ → Item
  tcall : ℕ → ℕ → ℕ → ℕ → Item
  ret : ℕ → ℕ → Item
  ldargs : Item
  stop : Item
  label : Item
  loop_at : ℕ → Item
  entry : ℕ → Item

abbrev pub Code : Type 0
Code = List Item

abbrev pub is_label : Item → Bool
is_label (csti v m) = false
is_label (plain p m) = false
is_label (pop m) = false
is_label (goto t m) = false
is_label (ifzero t m) = false
is_label (ifnzro t m) = false
is_label (call k f m) = false
is_label (tcall k n f m) = false
is_label (ret n m) = false
is_label ldargs = false
is_label stop = false
is_label label = true
is_label (loop_at w) = true
is_label (entry f) = true

-- words of an item: its number and its operands
abbrev pub width : Item → ℕ
width (csti v m) = 2
width (plain p m) = 1
width (pop m) = 2
width (goto t m) = 2
width (ifzero t m) = 2
width (ifnzro t m) = 2
width (call k f m) = 3
width (tcall k n f m) = 4
width (ret n m) = 2
width ldargs = 1
width stop = 1
width label = 0
width (loop_at w) = 0
width (entry f) = 0

-- words of code
abbrev pub size : Code → ℕ
size [] = 0
size (i ∷ C) = width i + size C

-- what a constant or a negation sees at the front of the code that follows it: an instruction that a head is about, without a label before it,
-- or anything else
pub data View : Code → Type 0 where
  v_add : (m : ℕ) (C : Code) → View (plain add m ∷ C)
  v_sub : (m : ℕ) (C : Code) → View (plain sub m ∷ C)
  v_mul : (m : ℕ) (C : Code) → View (plain mul m ∷ C)
  v_div : (m : ℕ) (C : Code) → View (plain div m ∷ C)
  v_eq : (m : ℕ) {C : Code} → View C → View (plain eq m ∷ C)
  v_not : (m : ℕ) {C : Code} → View C → View (plain not m ∷ C)
  v_pop : (m : ℕ) (C : Code) → View (pop m ∷ C)
  v_ifzero : (t : Target) (m : ℕ) (C : Code) → View (ifzero t m ∷ C)
  v_ifnzro : (t : Target) (m : ℕ) (C : Code) → View (ifnzro t m ∷ C)
  v_rest : (C : Code) → View C

unfoldable pub view : (C : Code) → View C
view [] = v_rest []
view (csti v m ∷ C) = v_rest (csti v m ∷ C)
view (plain add m ∷ C) = v_add m C
view (plain sub m ∷ C) = v_sub m C
view (plain mul m ∷ C) = v_mul m C
view (plain div m ∷ C) = v_div m C
view (plain rem m ∷ C) = v_rest (plain rem m ∷ C)
view (plain eq m ∷ C) = v_eq m (view C)
view (plain lt m ∷ C) = v_rest (plain lt m ∷ C)
view (plain not m ∷ C) = v_not m (view C)
view (plain dup m ∷ C) = v_rest (plain dup m ∷ C)
view (plain swap m ∷ C) = v_rest (plain swap m ∷ C)
view (plain ldi m ∷ C) = v_rest (plain ldi m ∷ C)
view (plain sti m ∷ C) = v_rest (plain sti m ∷ C)
view (plain getbp m ∷ C) = v_rest (plain getbp m ∷ C)
view (plain printi m ∷ C) = v_rest (plain printi m ∷ C)
view (pop m ∷ C) = v_pop m C
view (goto t m ∷ C) = v_rest (goto t m ∷ C)
view (ifzero t m ∷ C) = v_ifzero t m C
view (ifnzro t m ∷ C) = v_ifnzro t m C
view (call k f m ∷ C) = v_rest (call k f m ∷ C)
view (tcall k n f m ∷ C) = v_rest (tcall k n f m ∷ C)
view (ret n m ∷ C) = v_rest (ret n m ∷ C)
view (ldargs ∷ C) = v_rest (ldargs ∷ C)
view (stop ∷ C) = v_rest (stop ∷ C)
view (label ∷ C) = v_rest (label ∷ C)
view (loop_at w ∷ C) = v_rest (loop_at w ∷ C)
view (entry f ∷ C) = v_rest (entry f ∷ C)

-- what a label sees at the front: GOTO without a label before it, or anything else
pub data Front : Code → Type 0 where
  f_goto : (t : Target) (m : ℕ) (C : Code) → Front (goto t m ∷ C)
  f_rest : (C : Code) → Front C

unfoldable pub front : (C : Code) → Front C
front [] = f_rest []
front (csti v m ∷ C) = f_rest (csti v m ∷ C)
front (plain p m ∷ C) = f_rest (plain p m ∷ C)
front (pop m ∷ C) = f_rest (pop m ∷ C)
front (goto t m ∷ C) = f_goto t m C
front (ifzero t m ∷ C) = f_rest (ifzero t m ∷ C)
front (ifnzro t m ∷ C) = f_rest (ifnzro t m ∷ C)
front (call k f m ∷ C) = f_rest (call k f m ∷ C)
front (tcall k n f m ∷ C) = f_rest (tcall k n f m ∷ C)
front (ret n m ∷ C) = f_rest (ret n m ∷ C)
front (ldargs ∷ C) = f_rest (ldargs ∷ C)
front (stop ∷ C) = f_rest (stop ∷ C)
front (label ∷ C) = f_rest (label ∷ C)
front (loop_at w ∷ C) = f_rest (loop_at w ∷ C)
front (entry f ∷ C) = f_rest (entry f ∷ C)

-- RET n at the front, labelled or not
pub data Rets : ℕ → Code → Type 0 where
  r_now : (n m : ℕ) (C : Code) → Rets n (ret n m ∷ C)
  r_label : {n : ℕ} {C : Code} → Rets n C → Rets n (label ∷ C)
  r_loop : {n : ℕ} {C : Code} (w : ℕ) → Rets n C → Rets n (loop_at w ∷ C)
  r_entry : {n : ℕ} {C : Code} (f : ℕ) → Rets n C → Rets n (entry f ∷ C)

-- what an unconditional jump sees where it goes: RET, labelled or not, or anything else
pub data Jumps (C : Code) : Type 0 where
  j_ret : (n : ℕ) → Rets n C → Jumps C
  j_goes : Jumps C

abbrev pub jumps_label : {C : Code} → Jumps C → Jumps (label ∷ C)
jumps_label (j_ret n r) = j_ret n (r_label r)
jumps_label j_goes = j_goes

abbrev pub jumps_loop : {C : Code} (w : ℕ) → Jumps C → Jumps (loop_at w ∷ C)
jumps_loop w (j_ret n r) = j_ret n (r_loop w r)
jumps_loop w j_goes = j_goes

abbrev pub jumps_entry : {C : Code} (f : ℕ) → Jumps C → Jumps (entry f ∷ C)
jumps_entry f (j_ret n r) = j_ret n (r_entry f r)
jumps_entry f j_goes = j_goes

unfoldable pub jumps : (C : Code) → Jumps C
jumps [] = j_goes
jumps (csti v m ∷ C) = j_goes
jumps (plain p m ∷ C) = j_goes
jumps (pop m ∷ C) = j_goes
jumps (goto t m ∷ C) = j_goes
jumps (ifzero t m ∷ C) = j_goes
jumps (ifnzro t m ∷ C) = j_goes
jumps (call k f m ∷ C) = j_goes
jumps (tcall k n f m ∷ C) = j_goes
jumps (ret n m ∷ C) = j_ret n (r_now n m C)
jumps (ldargs ∷ C) = j_goes
jumps (stop ∷ C) = j_goes
jumps (label ∷ C) = jumps_label (jumps C)
jumps (loop_at w ∷ C) = jumps_loop w (jumps C)
jumps (entry f ∷ C) = jumps_entry f (jumps C)
