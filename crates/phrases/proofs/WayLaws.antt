-- The short ways out of && and ||, against the scheme, by what is seen at the front of the code.
use Rattle.std.proofs.Common.{◌≡◌, ℕ, List, [], ◌∷◌, drop, sym, refl, ap, ◌∙◌, subst}
use Rattle.scheme.specs.Code as S
use Rattle.scheme.specs.Writing as W
use Rattle.draft.specs.Cells.{cell, head_of}
use Rattle.draft.specs.Operations.{place_mark, jump_put, target_of, labelled_cells, opposite, conditional}
use Rattle.draft.specs.Draft.{place_of, draft}
use Rattle.draft.specs.declared.cells.Word.TheVariants.{Opcode, To}
use Rattle.draft.specs.declared.cells.Place.{Place}
use Rattle.draft.specs.declared.cells.Cell.{Cell}
use Rattle.draft.specs.declared.cells.Condition.{Condition}
use Rattle.draft.specs.declared.cells.Condition.TheVariants.{Zero, Nonzero}
use Rattle.draft.specs.declared.cells.Head.{Head}
use Rattle.draft.specs.declared.cells.Head.TheVariants.{Adds, Scales, Equals, Negates, Pops, Jumps, Goes, Other}
use Rattle.draft.proofs.DraftLaws.{head_flagged, mark_mark, draft-labelled, draft-target}
use Rattle.phrases.specs.Turns.{IsWay, way_before, way_out, decided}

-- the head that a view is of: a jump elsewhere is not seen
abbrev head_seen : {C : S.Code} → S.View C → Head
head_seen (S.v_add m C) = Adds
head_seen (S.v_sub m C) = Adds
head_seen (S.v_mul m C) = Scales
head_seen (S.v_div m C) = Scales
head_seen (S.v_eq m w) = Equals m
head_seen (S.v_not m w) = Negates
head_seen (S.v_pop m C) = Pops
head_seen (S.v_ifzero t m C) = Jumps Zero (place_of t) (place_mark (place_of t) m)
head_seen (S.v_ifnzro t m C) = Jumps Nonzero (place_of t) (place_mark (place_of t) m)
head_seen (S.v_rest C) = Other

abbrev seen : Head → Head
seen Adds = Adds
seen Scales = Scales
seen (Equals m) = Equals m
seen Negates = Negates
seen Pops = Pops
seen (Jumps k p m) = Jumps k p m
seen (Goes p) = Other
seen Other = Other

sees : (C : S.Code) → seen (head_of (draft C)) ≡ head_seen (S.view C)
unfolding draft S.view
sees [] = refl
sees (S.csti v m ∷ C) = refl
sees (S.plain S.add m ∷ C) = refl
sees (S.plain S.sub m ∷ C) = refl
sees (S.plain S.mul m ∷ C) = refl
sees (S.plain S.div m ∷ C) = refl
sees (S.plain S.rem m ∷ C) = refl
sees (S.plain S.eq m ∷ C) = refl
sees (S.plain S.lt m ∷ C) = refl
sees (S.plain S.not m ∷ C) = refl
sees (S.plain S.dup m ∷ C) = refl
sees (S.plain S.swap m ∷ C) = refl
sees (S.plain S.ldi m ∷ C) = refl
sees (S.plain S.sti m ∷ C) = refl
sees (S.plain S.getbp m ∷ C) = refl
sees (S.plain S.printi m ∷ C) = refl
sees (S.pop m ∷ C) = refl
sees (S.goto t m ∷ C) = refl
sees (S.ifzero t m ∷ C) = refl
sees (S.ifnzro t m ∷ C) = refl
sees (S.call k f m ∷ C) = refl
sees (S.tcall k l f m ∷ C) = refl
sees (S.ret k m ∷ C) = refl
sees (S.ldargs ∷ C) = refl
sees (S.stop ∷ C) = refl
sees (S.label ∷ C) = ap seen (head_flagged (draft C))
sees (S.loop_at w ∷ C) = ap seen (head_flagged (draft C))
sees (S.entry f ∷ C) = ap seen (head_flagged (draft C))

-- a jump that is seen is there
unseen : (h : Head) (k : Condition) (p : Place) (q : ℕ) → seen h ≡ Jumps k p q → h ≡ Jumps k p q
unseen Adds k p q e = e
unseen Scales k p q e = e
unseen (Equals m) k p q e = e
unseen Negates k p q e = e
unseen Pops k p q e = e
unseen (Jumps l s m) k p q e = e
unseen (Goes s) k p q e = cc
unseen Other k p q e = e

-- what is known of code that begins with a conditional jump
record Jump {C : S.Code} (v : S.View C) (j : Condition) (p : Place) (q : ℕ) : Type 0 where
  to : S.Target
  mark : ℕ
  rest : S.Code
  goes : p ≡ place_of to
  marked : q ≡ place_mark (place_of to) mark
  drafted : draft C ≡ jump_put (conditional j) (place_of to) mark (draft rest)
  with : (n : ℕ) → way_before j n v ≡ record { to = to; mark = mark; rest = C }
  behind : (n : ℕ) → IsWay (place_of (W.target rest)) n (jump_put (conditional j) (place_of to) mark (draft (W.labelled rest))) (way_before (opposite j) n v)

jump_seen : {C : S.Code} (v : S.View C) (j : Condition) (p : Place) (q : ℕ) → Jumps j p q ≡ head_seen v → Jump v j p q
unfolding draft W.and_before W.or_before
jump_seen (S.v_add m C) j p q e = cc
jump_seen (S.v_sub m C) j p q e = cc
jump_seen (S.v_mul m C) j p q e = cc
jump_seen (S.v_div m C) j p q e = cc
jump_seen (S.v_eq m w) j p q e = cc
jump_seen (S.v_not m w) j p q e = cc
jump_seen (S.v_pop m C) j p q e = cc
jump_seen (S.v_ifzero t m C) Zero p q e = record {
  to = t;
  mark = m;
  rest = C;
  goes = cc;
  marked = cc;
  drafted = refl;
  with = λ n. refl;
  behind = λ n. record { rest = refl; goes = refl; marked = refl };
}
jump_seen (S.v_ifzero t m C) Nonzero p q e = cc
jump_seen (S.v_ifnzro t m C) Zero p q e = cc
jump_seen (S.v_ifnzro t m C) Nonzero p q e = record {
  to = t;
  mark = m;
  rest = C;
  goes = cc;
  marked = cc;
  drafted = refl;
  with = λ n. refl;
  behind = λ n. record { rest = refl; goes = refl; marked = refl };
}
jump_seen (S.v_rest C) j p q e = cc

short_seen : (k : Condition) (n : ℕ) {C : S.Code} (v : S.View C) → ((j : Condition) (p : Place) (q : ℕ) → head_seen v ≡ Jumps j p q → ⊥) → W.short_way (decided k) n C ≡ way_before k n v
unfolding W.and_before W.or_before
short_seen Zero n (S.v_add m C) a = refl
short_seen Zero n (S.v_sub m C) a = refl
short_seen Zero n (S.v_mul m C) a = refl
short_seen Zero n (S.v_div m C) a = refl
short_seen Zero n (S.v_eq m w) a = refl
short_seen Zero n (S.v_not m w) a = refl
short_seen Zero n (S.v_pop m C) a = refl
short_seen Zero n (S.v_rest C) a = refl
short_seen Nonzero n (S.v_add m C) a = refl
short_seen Nonzero n (S.v_sub m C) a = refl
short_seen Nonzero n (S.v_mul m C) a = refl
short_seen Nonzero n (S.v_div m C) a = refl
short_seen Nonzero n (S.v_eq m w) a = refl
short_seen Nonzero n (S.v_not m w) a = refl
short_seen Nonzero n (S.v_pop m C) a = refl
short_seen Nonzero n (S.v_rest C) a = refl
short_seen k n (S.v_ifzero t m C) a = absurd (a _ _ _ refl)
short_seen k n (S.v_ifnzro t m C) a = absurd (a _ _ _ refl)

jump_at : (C : S.Code) (j : Condition) (p : Place) (q : ℕ) → Jumps j p q ≡ head_of (draft C) → Jump (S.view C) j p q
jump_at C j p q e = jump_seen (S.view C) j p q (ap seen e ∙ sees C)

same_jump : (k : Condition) (p : Place) (q : ℕ) (t : S.Target) (m : ℕ) (D : List Cell) → p ≡ place_of t → q ≡ place_mark (place_of t) m → jump_put (conditional k) p q D ≡ jump_put (conditional k) (place_of t) m D
same_jump k p q t m D g e =
    ap (λ x. jump_put (conditional k) x q D) g ∙ ap (λ y. jump_put (conditional k) (place_of t) y D) e
    ∙ ap (λ y. cell (Opcode (conditional k)) y ∷ (cell (To (place_of t)) y ∷ D)) (mark_mark (place_of t) m)

same_mark : (p : Place) (q : ℕ) (t : S.Target) (m : ℕ) → p ≡ place_of t → q ≡ place_mark (place_of t) m → place_mark p q ≡ place_mark p m
same_mark p q t m g e = ap (λ x. place_mark x q) g ∙ ap (place_mark (place_of t)) e ∙ mark_mark (place_of t) m ∙ sym (ap (λ x. place_mark x m) g)

-- with the jump that follows
pub way_with : (k : Condition) (n : ℕ) (C : S.Code) (p : Place) (q : ℕ) → Jumps k p q ≡ head_of (draft C) → IsWay p q (draft C) (way_out k n C)
way_with k n C p q e =
    let J = jump_at C k p q e in
    subst (IsWay p q (draft C)) (sym (J.with n)) (record { rest = refl; goes = J.goes; marked = same_mark p q J.to J.mark J.goes J.marked })

pub other : (j k : Condition) → (j ≡ k → ⊥) → k ≡ opposite j
other Zero Zero u = absurd (u refl)
other Zero Nonzero u = refl
other Nonzero Zero u = refl
other Nonzero Nonzero u = absurd (u refl)

-- behind the jump that follows
pub way_behind : (k : Condition) (n : ℕ) (C : S.Code) (p to : Place) (q : ℕ) (E : List Cell) → Jumps k p q ≡ head_of (draft C) → to ≡ target_of (drop 2 (draft C)) → E ≡ jump_put (conditional k) p q (labelled_cells (drop 2 (draft C)))
    → IsWay to n E (way_out (opposite k) n C)
way_behind k n C p to q E e f g =
    let J = jump_at C k p q e in
    let r : drop 2 (draft C) ≡ draft J.rest = ap (drop 2) J.drafted in
    let t : to ≡ place_of (W.target J.rest) = f ∙ ap target_of r ∙ sym (draft-target J.rest) in
    let l : E ≡ jump_put (conditional k) (place_of J.to) J.mark (draft (W.labelled J.rest)) =
    g ∙ ap (λ D. jump_put (conditional k) p q (labelled_cells D)) r ∙ ap (jump_put (conditional k) p q) (sym (draft-labelled J.rest)) ∙ same_jump k p q J.to J.mark _ J.goes J.marked in
    rw (t, l) (J.behind n)

-- where no such jump follows
pub way_short : (k : Condition) (n : ℕ) (C : S.Code) → ((j : Condition) (p : Place) (q : ℕ) → head_of (draft C) ≡ Jumps j p q → ⊥) → W.short_way (decided k) n C ≡ way_out k n C
way_short k n C u = short_seen k n (S.view C) (λ j p q e. u j p q (unseen (head_of (draft C)) j p q (sees C ∙ e)))
