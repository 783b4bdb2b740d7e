-- Whatever is written in front of marked code, with a mark of that property, gives marked code.
use Rattle.std.proofs.Common.{ℕ, Bool, true, false, cond, eqb, [], ◌∷◌, ℤ, pos}
use Rattle.meaning.specs.Words.{is_zero, flag, eq_z, Operator}
use Rattle.meaning.specs.Words
use Rattle.scheme.specs.Code.{Code, Target, size, View, view, Front, front, Jumps, jumps}
use Rattle.scheme.specs.Code
use Rattle.scheme.specs.Writing.{Way, dead, write_goto, add_goto, not_before, cst_before, add_cst, target_of, labelled_of, target, labelled, left_by, jump_by, and_before, or_before, short_way}
use Rattle.scheme.specs.Scheme.{operator_code, element_code}
use Rattle.bounds.proofs.Marked.{Aims, Marked}

module _ (P : ℕ → Type 0) where
  pub marked_dead : (C : Code) → Marked P C → Marked P (dead C)
  unfolding dead
  marked_dead [] h = tt
  marked_dead (Code.label ∷ C) h = h
  marked_dead (Code.loop_at w ∷ C) h = h
  marked_dead (Code.entry f ∷ C) h = h
  marked_dead (_ ∷ C) h = marked_dead C h.1

  marked-if : (b : Bool) (A B : Code) → Marked P A → Marked P B → Marked P (cond b A B)
  marked-if true A B f g = f
  marked-if false A B f g = g

  pub marked_goto : (t : Target) (m : ℕ) (C : Code) → P m → Aims P t → Marked P C → Marked P (add_goto t m C)
  unfolding write_goto
  marked_goto (Code.behind n) m C p a h =
      marked-if (eqb n (size (dead C))) (dead C) (Code.goto (Code.behind n) m ∷ dead C) (marked_dead C h) ((p, tt), marked_dead C h)
  marked_goto (Code.loop w) m C p a h = ((p, a), marked_dead C h)

  pub marked_not : (n : ℕ) {C : Code} (v : View C) → P n → Marked P C → Marked P (not_before n v)
  unfolding not_before
  marked_not n (Code.v_ifzero t m C) p h = h
  marked_not n (Code.v_ifnzro t m C) p h = h
  marked_not n _ p h = (p, h)

  pub marked_cst : (i : ℤ) (n : ℕ) {C : Code} (v : View C) → P n → Marked P C → Marked P (cst_before i n v)
  unfolding cst_before
  marked_cst i n (Code.v_add m C) p h = marked-if (is_zero i) C (Code.csti i n ∷ Code.plain Code.add m ∷ C) h.1 (p, h)
  marked_cst i n (Code.v_sub m C) p h = marked-if (is_zero i) C (Code.csti i n ∷ Code.plain Code.sub m ∷ C) h.1 (p, h)
  marked_cst i n (Code.v_mul m C) p h = marked-if (eq_z i (pos 1)) C (Code.csti i n ∷ Code.plain Code.mul m ∷ C) h.1 (p, h)
  marked_cst i n (Code.v_div m C) p h = marked-if (eq_z i (pos 1)) C (Code.csti i n ∷ Code.plain Code.div m ∷ C) h.1 (p, h)
  marked_cst i n (Code.v_eq m {C} v) p h =
      marked-if (is_zero i) (not_before m v) (Code.csti i n ∷ Code.plain Code.eq m ∷ C) (marked_not m v h.0 h.1) (p, h)
  marked_cst i n (Code.v_not m v) p h = marked_cst (flag (is_zero i)) n v p h.1
  marked_cst i n (Code.v_pop m C) p h = h.1
  marked_cst i n (Code.v_ifzero t m C) p h = marked-if (is_zero i) (add_goto t m C) C (marked_goto t m C h.0.0 h.0.1 h.1) h.1
  marked_cst i n (Code.v_ifnzro t m C) p h = marked-if (is_zero i) C (add_goto t m C) h.1 (marked_goto t m C h.0.0 h.0.1 h.1)
  marked_cst i n (Code.v_rest C) p h = (p, h)

  pub aims_target : {C : Code} (f : Front C) → Marked P C → Aims P (target_of f)
  unfolding target_of
  aims_target (Code.f_goto t m C) h = h.0.1
  aims_target (Code.f_rest C) h = tt

  pub marked_labelled : {C : Code} (f : Front C) → Marked P C → Marked P (labelled_of f)
  unfolding labelled_of
  marked_labelled (Code.f_goto t m C) h = h
  marked_labelled (Code.f_rest C) h = (tt, h)

  pub marked_left : (C : Code) (j : Jumps C) → Marked P C → Marked P (left_by C j)
  unfolding left_by
  marked_left C (Code.j_ret k r) h = h
  marked_left C Code.j_goes h = marked_labelled (front C) h

  pub marked_jump : (C : Code) (j : Jumps C) (m : ℕ) (D : Code) → P m → Marked P C → Marked P D → Marked P (jump_by C j m D)
  unfolding jump_by
  marked_jump C (Code.j_ret k r) m D p h g = (p, marked_dead D g)
  marked_jump C Code.j_goes m D p h g = marked_goto (target C) m D p (aims_target (front C) h) g

  -- a short way out: its jump, and what follows the second operand
  abbrev pub MarkedWay : Way → Type 0
  MarkedWay w = (P w.mark × Aims P w.to) × Marked P w.rest

  marked_short : (i : ℤ) (n : ℕ) (C : Code) → P n → Marked P C → MarkedWay (short_way i n C)
  marked_short i n C p h =
      let L = left_by C (jumps C) in
      let D = add_cst i n L in
      let hd : Marked P D = marked_cst i n (view L) p (marked_left C (jumps C) h) in
      ((p, aims_target (front D) hd), marked_jump C (jumps C) n (labelled D) p h (marked_labelled (front D) hd))

  pub marked_and : (n : ℕ) {C : Code} (v : View C) → P n → Marked P C → MarkedWay (and_before n v)
  unfolding and_before
  marked_and n (Code.v_ifzero t m C) p h = (h.0, h)
  marked_and n (Code.v_ifnzro t m C) p h = ((p, aims_target (front C) h.1), (h.0, marked_labelled (front C) h.1))
  marked_and n _ p h = marked_short (pos 0) n _ p h

  pub marked_or : (n : ℕ) {C : Code} (v : View C) → P n → Marked P C → MarkedWay (or_before n v)
  unfolding or_before
  marked_or n (Code.v_ifzero t m C) p h = ((p, aims_target (front C) h.1), (h.0, marked_labelled (front C) h.1))
  marked_or n (Code.v_ifnzro t m C) p h = (h.0, h)
  marked_or n _ p h = marked_short (pos 1) n _ p h

  pub marked_operator : (o : Operator) (n : ℕ) (C : Code) → P n → Marked P C → Marked P (operator_code o n C)
  marked_operator Words.ne n C p h = (p, marked_not n (view C) p h)
  marked_operator Words.ge n C p h = (p, marked_not n (view C) p h)
  marked_operator Words.gt n C p h = (p, (p, h))
  marked_operator Words.le n C p h = (p, (p, marked_not n (view C) p h))
  marked_operator _ n C p h = (p, h)

  pub marked_element : (n len w : ℕ) (C : Code) → P n → Marked P C → Marked P (element_code n len w C)
  marked_element n len w C p h =
      (p, (p, (p, ((p, tt), (p, (p, (p, ((p, tt), (tt, (p, (p, (tt, marked_cst (pos w) n (view _) p (p, h)))))))))))))
