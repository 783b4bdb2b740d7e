-- What is written in front of the code C that follows, and how that shortens it. A head counts only where no label stands between.
use Rattle.std.specs.Prelude.{ℕ, cond, [], ◌∷◌, ℤ, pos, ◌==◌}
use Rattle.meaning.specs.Words.{eq_z, is_zero, flag}
use Rattle.scheme.specs.Code.{Code, Target, is_label, size, View, view, Front, front, Jumps, jumps}
use Rattle.scheme.specs.Code

-- code that is never reached goes, up to the next label
unfoldable pub dead : Code → Code
dead [] = []
dead (i ∷ C) = cond (is_label i) (i ∷ C) (dead C)

-- GOTO, unless it goes to what is the next position
unfoldable pub write_goto : Target → ℕ → Code → Code
write_goto (Code.behind n) m C = cond (n == size C) C (Code.goto (Code.behind n) m ∷ C)
write_goto (Code.loop w) m C = Code.goto (Code.loop w) m ∷ C

abbrev pub add_goto : Target → ℕ → Code → Code
add_goto t m C = write_goto t m (dead C)

-- NOT before a conditional jump reverses it
unfoldable pub not_before : ℕ → {C : Code} → View C → Code
not_before m (Code.v_add n C) = Code.plain Code.not m ∷ Code.plain Code.add n ∷ C
not_before m (Code.v_sub n C) = Code.plain Code.not m ∷ Code.plain Code.sub n ∷ C
not_before m (Code.v_mul n C) = Code.plain Code.not m ∷ Code.plain Code.mul n ∷ C
not_before m (Code.v_div n C) = Code.plain Code.not m ∷ Code.plain Code.div n ∷ C
not_before m (Code.v_eq n {C} v) = Code.plain Code.not m ∷ Code.plain Code.eq n ∷ C
not_before m (Code.v_not n {C} v) = Code.plain Code.not m ∷ Code.plain Code.not n ∷ C
not_before m (Code.v_pop n C) = Code.plain Code.not m ∷ Code.pop n ∷ C
not_before m (Code.v_ifzero t n C) = Code.ifnzro t n ∷ C
not_before m (Code.v_ifnzro t n C) = Code.ifzero t n ∷ C
not_before m (Code.v_rest C) = Code.plain Code.not m ∷ C

abbrev pub add_not : ℕ → Code → Code
add_not m C = not_before m (view C)

-- the constant v vanishes with ADD, SUB, MUL, DIV where that changes nothing, and with what drops it; 0 before EQ is NOT;
-- NOT and conditional jumps are decided
unfoldable pub cst_before : ℤ → ℕ → {C : Code} → View C → Code
cst_before v m (Code.v_add n C) = cond (is_zero v) C (Code.csti v m ∷ Code.plain Code.add n ∷ C)
cst_before v m (Code.v_sub n C) = cond (is_zero v) C (Code.csti v m ∷ Code.plain Code.sub n ∷ C)
cst_before v m (Code.v_mul n C) = cond (eq_z v (pos 1)) C (Code.csti v m ∷ Code.plain Code.mul n ∷ C)
cst_before v m (Code.v_div n C) = cond (eq_z v (pos 1)) C (Code.csti v m ∷ Code.plain Code.div n ∷ C)
cst_before v m (Code.v_eq n {C} w) = cond (is_zero v) (not_before n w) (Code.csti v m ∷ Code.plain Code.eq n ∷ C)
cst_before v m (Code.v_not n w) = cst_before (flag (is_zero v)) m w
cst_before v m (Code.v_pop n C) = C
cst_before v m (Code.v_ifzero t n C) = cond (is_zero v) (add_goto t n C) C
cst_before v m (Code.v_ifnzro t n C) = cond (is_zero v) C (add_goto t n C)
cst_before v m (Code.v_rest C) = Code.csti v m ∷ C

abbrev pub add_cst : ℤ → ℕ → Code → Code
add_cst v m C = cst_before v m (view C)

-- where a jump to C goes, and C with the label for it: a jump to GOTO goes where that goes, and sets no label
unfoldable pub target_of : {C : Code} → Front C → Target
target_of (Code.f_goto t m C) = t
target_of (Code.f_rest C) = Code.behind (size C)

unfoldable pub labelled_of : {C : Code} → Front C → Code
labelled_of (Code.f_goto t m C) = Code.goto t m ∷ C
labelled_of (Code.f_rest C) = Code.label ∷ C

abbrev pub target : Code → Target
target C = target_of (front C)

abbrev pub labelled : Code → Code
labelled C = labelled_of (front C)

-- C as an unconditional jump to it leaves it, and that jump written before D: a jump to RET is RET, and sets no label
unfoldable pub left_by : (C : Code) → Jumps C → Code
left_by C (Code.j_ret n r) = C
left_by C Code.j_goes = labelled C

unfoldable pub jump_by : (C : Code) → Jumps C → ℕ → Code → Code
jump_by C (Code.j_ret n r) m D = Code.ret n m ∷ dead D
jump_by C Code.j_goes m D = add_goto (target C) m D

abbrev pub left_jump : Code → Code
left_jump C = left_by C (jumps C)

abbrev pub add_jump : Code → ℕ → Code → Code
add_jump C m D = jump_by C (jumps C) m D

-- && and ||: where the short way out goes, the mark of that jump, and what follows the second operand
pub record Way : Type 0 where
  pub to : Target
  pub mark : ℕ
  pub rest : Code

-- the short way pushes v
abbrev pub short_way : ℤ → ℕ → Code → Way
short_way v m C =
    let D = add_cst v m (left_jump C) in
    record { to = target D; mark = m; rest = add_jump C m (labelled D) }

-- a && b goes with a following IFZERO where that goes, and with a following IFNZRO behind that
unfoldable pub and_before : ℕ → {C : Code} → View C → Way
and_before m (Code.v_add n C) = short_way (pos 0) m (Code.plain Code.add n ∷ C)
and_before m (Code.v_sub n C) = short_way (pos 0) m (Code.plain Code.sub n ∷ C)
and_before m (Code.v_mul n C) = short_way (pos 0) m (Code.plain Code.mul n ∷ C)
and_before m (Code.v_div n C) = short_way (pos 0) m (Code.plain Code.div n ∷ C)
and_before m (Code.v_eq n {C} w) = short_way (pos 0) m (Code.plain Code.eq n ∷ C)
and_before m (Code.v_not n {C} w) = short_way (pos 0) m (Code.plain Code.not n ∷ C)
and_before m (Code.v_pop n C) = short_way (pos 0) m (Code.pop n ∷ C)
and_before m (Code.v_ifzero t n C) = record { to = t; mark = n; rest = Code.ifzero t n ∷ C }
and_before m (Code.v_ifnzro t n C) = record { to = target C; mark = m; rest = Code.ifnzro t n ∷ labelled C }
and_before m (Code.v_rest C) = short_way (pos 0) m C

abbrev pub and_way : ℕ → Code → Way
and_way m C = and_before m (view C)

-- a || b goes with a following IFNZRO where that goes, and with a following IFZERO behind that
unfoldable pub or_before : ℕ → {C : Code} → View C → Way
or_before m (Code.v_add n C) = short_way (pos 1) m (Code.plain Code.add n ∷ C)
or_before m (Code.v_sub n C) = short_way (pos 1) m (Code.plain Code.sub n ∷ C)
or_before m (Code.v_mul n C) = short_way (pos 1) m (Code.plain Code.mul n ∷ C)
or_before m (Code.v_div n C) = short_way (pos 1) m (Code.plain Code.div n ∷ C)
or_before m (Code.v_eq n {C} w) = short_way (pos 1) m (Code.plain Code.eq n ∷ C)
or_before m (Code.v_not n {C} w) = short_way (pos 1) m (Code.plain Code.not n ∷ C)
or_before m (Code.v_pop n C) = short_way (pos 1) m (Code.pop n ∷ C)
or_before m (Code.v_ifzero t n C) = record { to = target C; mark = m; rest = Code.ifzero t n ∷ labelled C }
or_before m (Code.v_ifnzro t n C) = record { to = t; mark = n; rest = Code.ifnzro t n ∷ C }
or_before m (Code.v_rest C) = short_way (pos 1) m C

abbrev pub or_way : ℕ → Code → Way
or_way m C = or_before m (view C)
