-- The operations on cells do to a draft what the scheme does to the symbolic code.
use Rattle.std.proofs.Common.{◌≡◌, ℕ, Bool, true, false, cond, eqb, List, [], ◌∷◌, length, ℤ, pos, Some, None, Option, sym, refl, ap, ◌∙◌, arith}
use Rattle.meaning.specs.Words.{flag, is_zero, eq_z}
use Rattle.scheme.specs.Code as S
use Rattle.scheme.specs.Writing as W
use Rattle.draft.specs.Cells.{cell, flagged, head_of, dead_cells, return_of}
use Rattle.draft.specs.Operations.{place_mark, jump_put, go_put, goto_put, not_by, not_put, constant, constant_by, constant_put, target_of, labelled_cells, exit_by, left_by, exit_of, left_cells, returned, exit_put}
use Rattle.draft.specs.Draft.{place_of, draft}
use Rattle.rules.specs.declared.Instruction.{Instruction}
use Rattle.rules.specs.declared.Instruction.TheVariants.{Not, Goto, IfZero, IfNzro}
use Rattle.draft.specs.declared.cells.Word.TheVariants.{Opcode}
use Rattle.draft.specs.declared.put.Plan.{Plan}
use Rattle.draft.specs.declared.put.Plan.TheVariants.{Write, Skip, Negate, Jump}
use Rattle.draft.specs.declared.cells.Place.{Place}
use Rattle.draft.specs.declared.cells.Place.TheVariants.{Behind, Loop}
use Rattle.draft.specs.declared.cells.Cell.{Cell}
use Rattle.draft.specs.declared.cells.Head.TheVariants.{Other}

length-flagged : (D : List Cell) → length (flagged D) ≡ length D
length-flagged [] = refl
length-flagged (c ∷ D) = refl

-- a draft has a cell for each word
pub length-draft : (C : S.Code) → length (draft C) ≡ S.size C
unfolding draft
length-draft [] = refl
length-draft (S.csti i m ∷ C) = let e = length-draft C in omega arith
length-draft (S.plain p m ∷ C) = let e = length-draft C in omega arith
length-draft (S.pop m ∷ C) = let e = length-draft C in omega arith
length-draft (S.goto t m ∷ C) = let e = length-draft C in omega arith
length-draft (S.ifzero t m ∷ C) = let e = length-draft C in omega arith
length-draft (S.ifnzro t m ∷ C) = let e = length-draft C in omega arith
length-draft (S.call k f m ∷ C) = let e = length-draft C in omega arith
length-draft (S.tcall k l f m ∷ C) = let e = length-draft C in omega arith
length-draft (S.ret k m ∷ C) = let e = length-draft C in omega arith
length-draft (S.ldargs ∷ C) = let e = length-draft C in omega arith
length-draft (S.stop ∷ C) = let e = length-draft C in omega arith
length-draft (S.label ∷ C) = omega (arith, length-draft C, length-flagged (draft C))
length-draft (S.loop_at w ∷ C) = omega (arith, length-draft C, length-flagged (draft C))
length-draft (S.entry f ∷ C) = omega (arith, length-draft C, length-flagged (draft C))

-- code that is labelled begins with nothing that matters
pub head_flagged : (D : List Cell) → head_of (flagged D) ≡ Other
head_flagged [] = refl
head_flagged (c ∷ D) = refl

dead-flagged : (D : List Cell) → dead_cells (flagged D) ≡ flagged D
dead-flagged [] = refl
dead-flagged (c ∷ D) = refl

pub draft-dead : (C : S.Code) → draft (W.dead C) ≡ dead_cells (draft C)
unfolding draft W.dead
draft-dead [] = refl
draft-dead (S.csti i m ∷ C) = draft-dead C
draft-dead (S.plain p m ∷ C) = draft-dead C
draft-dead (S.pop m ∷ C) = draft-dead C
draft-dead (S.goto t m ∷ C) = draft-dead C
draft-dead (S.ifzero t m ∷ C) = draft-dead C
draft-dead (S.ifnzro t m ∷ C) = draft-dead C
draft-dead (S.call k f m ∷ C) = draft-dead C
draft-dead (S.tcall k l f m ∷ C) = draft-dead C
draft-dead (S.ret k m ∷ C) = draft-dead C
draft-dead (S.ldargs ∷ C) = draft-dead C
draft-dead (S.stop ∷ C) = draft-dead C
draft-dead (S.label ∷ C) = sym (dead-flagged (draft C))
draft-dead (S.loop_at w ∷ C) = sym (dead-flagged (draft C))
draft-dead (S.entry f ∷ C) = sym (dead-flagged (draft C))

draft_cond : (b : Bool) (C E : S.Code) → draft (cond b C E) ≡ cond b (draft C) (draft E)
draft_cond true C E = refl
draft_cond false C E = refl

draft_go : (t : S.Target) (m : ℕ) (C : S.Code) → draft (W.write_goto t m C) ≡ go_put (place_of t) m (draft C)
unfolding draft W.write_goto
draft_go (S.behind n) m C = draft_cond (eqb n (S.size C)) C (S.goto (S.behind n) m ∷ C) ∙ ap (λ k. cond (eqb n k) (draft C) (jump_put Goto (Behind n) m (draft C))) (sym (length-draft C))
draft_go (S.loop w) m C = refl

pub draft-goto : (t : S.Target) (m : ℕ) (C : S.Code) → draft (W.add_goto t m C) ≡ goto_put (place_of t) m (draft C)
draft-goto t m C = draft_go t m (W.dead C) ∙ ap (go_put (place_of t) m) (draft-dead C)

-- the mark of a jump to a loop is the loop's
pub mark_mark : (t : Place) (m : ℕ) → place_mark t (place_mark t m) ≡ place_mark t m
mark_mark (Behind n) m = refl
mark_mark (Loop w) m = refl

jump_mark_lem : (o : Instruction) (t : Place) (m : ℕ) (D : List Cell) → jump_put o t (place_mark t m) D ≡ jump_put o t m D
jump_mark_lem o (Behind n) m D = refl
jump_mark_lem o (Loop w) m D = refl

goto_mark : (t : Place) (m : ℕ) (D : List Cell) → goto_put t (place_mark t m) D ≡ goto_put t m D
goto_mark (Behind n) m D = refl
goto_mark (Loop w) m D = refl

not_flagged : (n : ℕ) (D : List Cell) → cell (Opcode Not) n ∷ flagged D ≡ not_put n (flagged D)
not_flagged n D = sym (ap (λ h. not_by h n (flagged D)) (head_flagged D))

pub draft_not : (n : ℕ) (C : S.Code) → draft (W.add_not n C) ≡ not_put n (draft C)
unfolding draft S.view W.not_before
draft_not n [] = refl
draft_not n (S.csti i m ∷ C) = refl
draft_not n (S.plain S.add m ∷ C) = refl
draft_not n (S.plain S.sub m ∷ C) = refl
draft_not n (S.plain S.mul m ∷ C) = refl
draft_not n (S.plain S.div m ∷ C) = refl
draft_not n (S.plain S.rem m ∷ C) = refl
draft_not n (S.plain S.eq m ∷ C) = refl
draft_not n (S.plain S.lt m ∷ C) = refl
draft_not n (S.plain S.not m ∷ C) = refl
draft_not n (S.plain S.dup m ∷ C) = refl
draft_not n (S.plain S.swap m ∷ C) = refl
draft_not n (S.plain S.ldi m ∷ C) = refl
draft_not n (S.plain S.sti m ∷ C) = refl
draft_not n (S.plain S.getbp m ∷ C) = refl
draft_not n (S.plain S.printi m ∷ C) = refl
draft_not n (S.pop m ∷ C) = refl
draft_not n (S.goto t m ∷ C) = refl
draft_not n (S.ifzero t m ∷ C) = sym (jump_mark_lem IfNzro (place_of t) m (draft C))
draft_not n (S.ifnzro t m ∷ C) = sym (jump_mark_lem IfZero (place_of t) m (draft C))
draft_not n (S.call k f m ∷ C) = refl
draft_not n (S.tcall k l f m ∷ C) = refl
draft_not n (S.ret k m ∷ C) = refl
draft_not n (S.ldargs ∷ C) = refl
draft_not n (S.stop ∷ C) = refl
draft_not n (S.label ∷ C) = not_flagged n (draft C)
draft_not n (S.loop_at w ∷ C) = not_flagged n (draft C)
draft_not n (S.entry f ∷ C) = not_flagged n (draft C)

cst_flagged : (i : ℤ) (n : ℕ) (D : List Cell) → constant i n (flagged D) ≡ constant_put i n (flagged D)
unfolding constant_put
cst_flagged i n [] = refl
cst_flagged i n (c ∷ D) = refl

cst_cond : (b : Bool) (p q : Plan) (i : ℤ) (n : ℕ) (again : ℤ → List Cell) (D : List Cell) → cond b (constant_by p i n again D) (constant_by q i n again D) ≡ constant_by (cond b p q) i n again D
cst_cond true p q i n again D = refl
cst_cond false p q i n again D = refl

pub draft_cst : (i : ℤ) (n : ℕ) (C : S.Code) → draft (W.add_cst i n C) ≡ constant_put i n (draft C)
unfolding draft S.view W.cst_before constant_put
draft_cst i n [] = refl
draft_cst i n (S.csti j m ∷ C) = refl
draft_cst i n (S.plain S.add m ∷ C) = draft_cond (is_zero i) C (S.csti i n ∷ S.plain S.add m ∷ C) ∙ cst_cond (is_zero i) (Skip 1) Write i n _ (draft (S.plain S.add m ∷ C))
draft_cst i n (S.plain S.sub m ∷ C) = draft_cond (is_zero i) C (S.csti i n ∷ S.plain S.sub m ∷ C) ∙ cst_cond (is_zero i) (Skip 1) Write i n _ (draft (S.plain S.sub m ∷ C))
draft_cst i n (S.plain S.mul m ∷ C) = draft_cond (eq_z i (pos 1)) C (S.csti i n ∷ S.plain S.mul m ∷ C) ∙ cst_cond (eq_z i (pos 1)) (Skip 1) Write i n _ (draft (S.plain S.mul m ∷ C))
draft_cst i n (S.plain S.div m ∷ C) = draft_cond (eq_z i (pos 1)) C (S.csti i n ∷ S.plain S.div m ∷ C) ∙ cst_cond (eq_z i (pos 1)) (Skip 1) Write i n _ (draft (S.plain S.div m ∷ C))
draft_cst i n (S.plain S.rem m ∷ C) = refl
draft_cst i n (S.plain S.eq m ∷ C) = draft_cond (is_zero i) (W.add_not m C) (S.csti i n ∷ S.plain S.eq m ∷ C) ∙ ap (λ E. cond (is_zero i) E (draft (S.csti i n ∷ S.plain S.eq m ∷ C))) (draft_not m C) ∙ cst_cond (is_zero i) (Negate m) Write i n _ (draft (S.plain S.eq m ∷ C))
draft_cst i n (S.plain S.lt m ∷ C) = refl
draft_cst i n (S.plain S.not m ∷ C) = draft_cst (flag (is_zero i)) n C
draft_cst i n (S.plain S.dup m ∷ C) = refl
draft_cst i n (S.plain S.swap m ∷ C) = refl
draft_cst i n (S.plain S.ldi m ∷ C) = refl
draft_cst i n (S.plain S.sti m ∷ C) = refl
draft_cst i n (S.plain S.getbp m ∷ C) = refl
draft_cst i n (S.plain S.printi m ∷ C) = refl
draft_cst i n (S.pop m ∷ C) = refl
draft_cst i n (S.goto t m ∷ C) = refl
draft_cst i n (S.ifzero t m ∷ C) = draft_cond (is_zero i) (W.add_goto t m C) C ∙ ap (λ E. cond (is_zero i) E (draft C)) (draft-goto t m C ∙ sym (goto_mark (place_of t) m (draft C))) ∙ cst_cond (is_zero i) (Jump (place_of t) (place_mark (place_of t) m)) (Skip 2) i n _ (draft (S.ifzero t m ∷ C))
draft_cst i n (S.ifnzro t m ∷ C) = draft_cond (is_zero i) C (W.add_goto t m C) ∙ ap (λ E. cond (is_zero i) (draft C) E) (draft-goto t m C ∙ sym (goto_mark (place_of t) m (draft C))) ∙ cst_cond (is_zero i) (Skip 2) (Jump (place_of t) (place_mark (place_of t) m)) i n _ (draft (S.ifnzro t m ∷ C))
draft_cst i n (S.call k f m ∷ C) = refl
draft_cst i n (S.tcall k l f m ∷ C) = refl
draft_cst i n (S.ret k m ∷ C) = refl
draft_cst i n (S.ldargs ∷ C) = refl
draft_cst i n (S.stop ∷ C) = refl
draft_cst i n (S.label ∷ C) = cst_flagged i n (draft C)
draft_cst i n (S.loop_at w ∷ C) = cst_flagged i n (draft C)
draft_cst i n (S.entry f ∷ C) = cst_flagged i n (draft C)

label-flagged : (D : List Cell) → flagged (flagged D) ≡ labelled_cells (flagged D)
label-flagged [] = refl
label-flagged (c ∷ D) = refl

target-flagged : (D : List Cell) → Behind (length (flagged D)) ≡ target_of (flagged D)
target-flagged [] = refl
target-flagged (c ∷ D) = refl

pub draft-labelled : (C : S.Code) → draft (W.labelled C) ≡ labelled_cells (draft C)
unfolding draft S.front W.labelled_of
draft-labelled [] = refl
draft-labelled (S.csti i m ∷ C) = refl
draft-labelled (S.plain S.add m ∷ C) = refl
draft-labelled (S.plain S.sub m ∷ C) = refl
draft-labelled (S.plain S.mul m ∷ C) = refl
draft-labelled (S.plain S.div m ∷ C) = refl
draft-labelled (S.plain S.rem m ∷ C) = refl
draft-labelled (S.plain S.eq m ∷ C) = refl
draft-labelled (S.plain S.lt m ∷ C) = refl
draft-labelled (S.plain S.not m ∷ C) = refl
draft-labelled (S.plain S.dup m ∷ C) = refl
draft-labelled (S.plain S.swap m ∷ C) = refl
draft-labelled (S.plain S.ldi m ∷ C) = refl
draft-labelled (S.plain S.sti m ∷ C) = refl
draft-labelled (S.plain S.getbp m ∷ C) = refl
draft-labelled (S.plain S.printi m ∷ C) = refl
draft-labelled (S.pop m ∷ C) = refl
draft-labelled (S.goto t m ∷ C) = refl
draft-labelled (S.ifzero t m ∷ C) = refl
draft-labelled (S.ifnzro t m ∷ C) = refl
draft-labelled (S.call k f m ∷ C) = refl
draft-labelled (S.tcall k l f m ∷ C) = refl
draft-labelled (S.ret k m ∷ C) = refl
draft-labelled (S.ldargs ∷ C) = refl
draft-labelled (S.stop ∷ C) = refl
draft-labelled (S.label ∷ C) = label-flagged (draft C)
draft-labelled (S.loop_at w ∷ C) = label-flagged (draft C)
draft-labelled (S.entry f ∷ C) = label-flagged (draft C)

pub draft-target : (C : S.Code) → place_of (W.target C) ≡ target_of (draft C)
unfolding draft S.front W.target_of
draft-target [] = refl
draft-target (S.csti i m ∷ C) = ap Behind (sym (length-draft (S.csti i m ∷ C)))
draft-target (S.plain S.add m ∷ C) = ap Behind (sym (length-draft (S.plain S.add m ∷ C)))
draft-target (S.plain S.sub m ∷ C) = ap Behind (sym (length-draft (S.plain S.sub m ∷ C)))
draft-target (S.plain S.mul m ∷ C) = ap Behind (sym (length-draft (S.plain S.mul m ∷ C)))
draft-target (S.plain S.div m ∷ C) = ap Behind (sym (length-draft (S.plain S.div m ∷ C)))
draft-target (S.plain S.rem m ∷ C) = ap Behind (sym (length-draft (S.plain S.rem m ∷ C)))
draft-target (S.plain S.eq m ∷ C) = ap Behind (sym (length-draft (S.plain S.eq m ∷ C)))
draft-target (S.plain S.lt m ∷ C) = ap Behind (sym (length-draft (S.plain S.lt m ∷ C)))
draft-target (S.plain S.not m ∷ C) = ap Behind (sym (length-draft (S.plain S.not m ∷ C)))
draft-target (S.plain S.dup m ∷ C) = ap Behind (sym (length-draft (S.plain S.dup m ∷ C)))
draft-target (S.plain S.swap m ∷ C) = ap Behind (sym (length-draft (S.plain S.swap m ∷ C)))
draft-target (S.plain S.ldi m ∷ C) = ap Behind (sym (length-draft (S.plain S.ldi m ∷ C)))
draft-target (S.plain S.sti m ∷ C) = ap Behind (sym (length-draft (S.plain S.sti m ∷ C)))
draft-target (S.plain S.getbp m ∷ C) = ap Behind (sym (length-draft (S.plain S.getbp m ∷ C)))
draft-target (S.plain S.printi m ∷ C) = ap Behind (sym (length-draft (S.plain S.printi m ∷ C)))
draft-target (S.pop m ∷ C) = ap Behind (sym (length-draft (S.pop m ∷ C)))
draft-target (S.goto t m ∷ C) = refl
draft-target (S.ifzero t m ∷ C) = ap Behind (sym (length-draft (S.ifzero t m ∷ C)))
draft-target (S.ifnzro t m ∷ C) = ap Behind (sym (length-draft (S.ifnzro t m ∷ C)))
draft-target (S.call k f m ∷ C) = ap Behind (sym (length-draft (S.call k f m ∷ C)))
draft-target (S.tcall k l f m ∷ C) = ap Behind (sym (length-draft (S.tcall k l f m ∷ C)))
draft-target (S.ret k m ∷ C) = ap Behind (sym (length-draft (S.ret k m ∷ C)))
draft-target (S.ldargs ∷ C) = ap Behind (sym (length-draft (S.ldargs ∷ C)))
draft-target (S.stop ∷ C) = ap Behind (sym (length-draft (S.stop ∷ C)))
draft-target (S.label ∷ C) = ap Behind (sym (length-draft (S.label ∷ C))) ∙ target-flagged (draft C)
draft-target (S.loop_at w ∷ C) = ap Behind (sym (length-draft (S.loop_at w ∷ C))) ∙ target-flagged (draft C)
draft-target (S.entry f ∷ C) = ap Behind (sym (length-draft (S.entry f ∷ C))) ∙ target-flagged (draft C)

-- the return that a jump to the code can be
abbrev pub ret_j : {C : S.Code} → S.Jumps C → Option ℕ
ret_j (S.j_ret k r) = Some k
ret_j S.j_goes = None

ret-flagged : (D : List Cell) → return_of (flagged D) ≡ return_of D
ret-flagged [] = refl
ret-flagged (c ∷ D) = refl

ret-here : {C : S.Code} (j : S.Jumps C) → ret_j (S.jumps_label j) ≡ ret_j j
ret-here (S.j_ret k r) = refl
ret-here S.j_goes = refl

ret-loop : {C : S.Code} (w : ℕ) (j : S.Jumps C) → ret_j (S.jumps_loop w j) ≡ ret_j j
ret-loop w (S.j_ret k r) = refl
ret-loop w S.j_goes = refl

ret-entry : {C : S.Code} (f : ℕ) (j : S.Jumps C) → ret_j (S.jumps_entry f j) ≡ ret_j j
ret-entry f (S.j_ret k r) = refl
ret-entry f S.j_goes = refl

pub draft-ret : (C : S.Code) → ret_j (S.jumps C) ≡ return_of (draft C)
unfolding draft S.jumps
draft-ret [] = refl
draft-ret (S.csti i m ∷ C) = refl
draft-ret (S.plain S.add m ∷ C) = refl
draft-ret (S.plain S.sub m ∷ C) = refl
draft-ret (S.plain S.mul m ∷ C) = refl
draft-ret (S.plain S.div m ∷ C) = refl
draft-ret (S.plain S.rem m ∷ C) = refl
draft-ret (S.plain S.eq m ∷ C) = refl
draft-ret (S.plain S.lt m ∷ C) = refl
draft-ret (S.plain S.not m ∷ C) = refl
draft-ret (S.plain S.dup m ∷ C) = refl
draft-ret (S.plain S.swap m ∷ C) = refl
draft-ret (S.plain S.ldi m ∷ C) = refl
draft-ret (S.plain S.sti m ∷ C) = refl
draft-ret (S.plain S.getbp m ∷ C) = refl
draft-ret (S.plain S.printi m ∷ C) = refl
draft-ret (S.pop m ∷ C) = refl
draft-ret (S.goto t m ∷ C) = refl
draft-ret (S.ifzero t m ∷ C) = refl
draft-ret (S.ifnzro t m ∷ C) = refl
draft-ret (S.call k f m ∷ C) = refl
draft-ret (S.tcall k l f m ∷ C) = refl
draft-ret (S.ret k m ∷ C) = refl
draft-ret (S.ldargs ∷ C) = refl
draft-ret (S.stop ∷ C) = refl
draft-ret (S.label ∷ C) = ret-here (S.jumps C) ∙ draft-ret C ∙ sym (ret-flagged (draft C))
draft-ret (S.loop_at w ∷ C) = ret-loop w (S.jumps C) ∙ draft-ret C ∙ sym (ret-flagged (draft C))
draft-ret (S.entry f ∷ C) = ret-entry f (S.jumps C) ∙ draft-ret C ∙ sym (ret-flagged (draft C))

left_by_lem : (C : S.Code) (j : S.Jumps C) → draft (W.left_by C j) ≡ left_by (ret_j j) (draft C)
unfolding W.left_by
left_by_lem C (S.j_ret k r) = refl
left_by_lem C S.j_goes = draft-labelled C

pub draft_left : (C : S.Code) → draft (W.left_by C (S.jumps C)) ≡ left_cells (draft C)
draft_left C = left_by_lem C (S.jumps C) ∙ ap (λ o. left_by o (draft C)) (draft-ret C)

jump_by_lem : (C : S.Code) (j : S.Jumps C) (m : ℕ) (E : S.Code) → draft (W.jump_by C j m E) ≡ exit_put (exit_by (ret_j j) (target_of (draft C))) m (draft E)
unfolding draft W.jump_by
jump_by_lem C (S.j_ret k r) m E = ap (returned k m) (draft-dead E)
jump_by_lem C S.j_goes m E = draft-goto (W.target C) m E ∙ ap (λ p. goto_put p m (draft E)) (draft-target C)

pub draft_jump : (C : S.Code) (m : ℕ) (E : S.Code) → draft (W.jump_by C (S.jumps C) m E) ≡ exit_put (exit_of (draft C)) m (draft E)
draft_jump C m E = jump_by_lem C (S.jumps C) m E ∙ ap (λ o. exit_put (exit_by o (target_of (draft C))) m (draft E)) (draft-ret C)
