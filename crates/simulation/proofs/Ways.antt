-- && and ||: where their short way goes, and what follows their second operand.
use Rattle.std.proofs.Common.{◌≡◌, ℕ, zero, suc, ◌<◌, Bool, true, false, List, [], ◌∷◌, length, ℤ, pos, refl}
use Rattle.meaning.specs.Words.{is_zero}
use Rattle.scheme.specs.Code.{Code, View, view, front, jumps}
use Rattle.scheme.specs.Code
use Rattle.scheme.specs.Writing.{add_cst, labelled, left_jump, short_way, and_before, or_before}
use Rattle.symbolic.specs.Symbolic.{more, Rest, Finish, EndsIn, ends, leads, if}
use Rattle.scheme.proofs.Keep.{keeps_trans, keeps_cst, keeps_labelled, keeps_jump}
use Rattle.simulation.proofs.Machine.{Machine, In, Run, Lands, To, Hosts}
use Rattle.simulation.proofs.Laws.{label_law, labels_law, cst_law, left_law, jump_law, ifzero_taken, ifzero_passed, ifnzro_passed, ifnzro_taken}

module _ (μ : Machine) where
  short_law : (i : ℤ) (n : ℕ) (C : Code) (S : List ℤ) {ρ : Rest} {o : Finish} → length S < μ.cap → Hosts μ (short_way i n C).rest → Run μ C (i ∷ S) ρ o → To μ (short_way i n C).to S ρ o
  short_law i n C S room hosted h =
      let L = left_jump C in
      let D = add_cst i n L in
      let hl : Hosts μ (labelled D) = keeps_trans {B = (short_way i n C).rest} hosted (keeps_jump C (jumps C) n (labelled D)) in
      label_law μ (front D) hl (cst_law μ i n (view L) S room (keeps_trans {B = labelled D} hl (keeps_labelled (front D))) (left_law μ C (jumps C) h))

  short_rest : (i : ℤ) (n : ℕ) (C : Code) {S : List ℤ} {ρ : Rest} {o : Finish} → Hosts μ (short_way i n C).rest → Run μ C S ρ o → Run μ (short_way i n C).rest S ρ o
  short_rest i n C hosted h =
      let L = left_jump C in
      let D = add_cst i n L in
      jump_law μ C (jumps C) n (labelled D) hosted
      (keeps_trans {B = (short_way i n C).rest} hosted (keeps_trans {B = labelled D} (keeps_jump C (jumps C) n (labelled D)) (keeps_trans {B = D} (keeps_labelled (front D)) (keeps_cst i n (view L))))) h

  pub and_short : (n : ℕ) {C : Code} (v : View C) (S : List ℤ) {ρ : Rest} {o : Finish} → length S < μ.cap → Hosts μ (and_before n v).rest → Run μ C (pos 0 ∷ S) ρ o → To μ (and_before n v).to S ρ o
  unfolding EndsIn and_before
  and_short n (Code.v_add m C) S room hosted h = short_law (pos 0) n _ S room hosted h
  and_short n (Code.v_sub m C) S room hosted h = short_law (pos 0) n _ S room hosted h
  and_short n (Code.v_div m C) S room hosted h = short_law (pos 0) n _ S room hosted h
  and_short n (Code.v_mul m C) S room hosted h = short_law (pos 0) n _ S room hosted h
  and_short n (Code.v_eq m v) S room hosted h = short_law (pos 0) n _ S room hosted h
  and_short n (Code.v_not m v) S room hosted h = short_law (pos 0) n _ S room hosted h
  and_short n (Code.v_pop m C) S room hosted h = short_law (pos 0) n _ S room hosted h
  and_short n (Code.v_ifzero t m C) S room hosted (ends zero h) = absurd h
  and_short n (Code.v_ifzero t m C) S room hosted (ends (suc k) h) = leads k h
  and_short n (Code.v_ifnzro t m C) S room hosted (ends zero h) = absurd h
  and_short n (Code.v_ifnzro t m C) S room hosted (ends (suc k) h) = label_law μ (front C) (λ D l s. hosted D l (more s)) (ends k h)
  and_short n (Code.v_rest C) S room hosted h = short_law (pos 0) n C S room hosted h

  pub and_rest : (n : ℕ) {C : Code} (v : View C) (S : List ℤ) {ρ : Rest} {o : Finish} → Hosts μ (and_before n v).rest → Run μ C S ρ o → Run μ (and_before n v).rest S ρ o
  unfolding EndsIn and_before
  and_rest n (Code.v_add m C) S hosted h = short_rest (pos 0) n _ hosted h
  and_rest n (Code.v_sub m C) S hosted h = short_rest (pos 0) n _ hosted h
  and_rest n (Code.v_div m C) S hosted h = short_rest (pos 0) n _ hosted h
  and_rest n (Code.v_mul m C) S hosted h = short_rest (pos 0) n _ hosted h
  and_rest n (Code.v_eq m v) S hosted h = short_rest (pos 0) n _ hosted h
  and_rest n (Code.v_not m v) S hosted h = short_rest (pos 0) n _ hosted h
  and_rest n (Code.v_pop m C) S hosted h = short_rest (pos 0) n _ hosted h
  and_rest n (Code.v_ifzero t m C) S hosted h = h
  and_rest n (Code.v_ifnzro t m C) S hosted (ends zero h) = absurd h
  and_rest n (Code.v_ifnzro t m C) [] hosted (ends (suc k) h) = absurd h
  and_rest n (Code.v_ifnzro t m C) (x ∷ S) {ρ} {o} hosted (ends (suc k) h) = go (is_zero x) refl h
    where
      go : (b : Bool) → is_zero x ≡ b → if b (In μ k C S ρ o) (Lands μ t ρ o (λ D ρ'. In μ k D S ρ' o)) → Run μ (Code.ifnzro t m ∷ labelled C) (x ∷ S) ρ o
      go true e q = ifnzro_passed μ t m x e (labels_law μ (front C) (ends k q))
      go false e q = ifnzro_taken μ t m (labelled C) x e (leads k q)
  and_rest n (Code.v_rest C) S hosted h = short_rest (pos 0) n C hosted h

  pub or_short : (n : ℕ) {C : Code} (v : View C) (S : List ℤ) {ρ : Rest} {o : Finish} → length S < μ.cap → Hosts μ (or_before n v).rest → Run μ C (pos 1 ∷ S) ρ o → To μ (or_before n v).to S ρ o
  unfolding EndsIn or_before
  or_short n (Code.v_add m C) S room hosted h = short_law (pos 1) n _ S room hosted h
  or_short n (Code.v_sub m C) S room hosted h = short_law (pos 1) n _ S room hosted h
  or_short n (Code.v_div m C) S room hosted h = short_law (pos 1) n _ S room hosted h
  or_short n (Code.v_mul m C) S room hosted h = short_law (pos 1) n _ S room hosted h
  or_short n (Code.v_eq m v) S room hosted h = short_law (pos 1) n _ S room hosted h
  or_short n (Code.v_not m v) S room hosted h = short_law (pos 1) n _ S room hosted h
  or_short n (Code.v_pop m C) S room hosted h = short_law (pos 1) n _ S room hosted h
  or_short n (Code.v_ifnzro t m C) S room hosted (ends zero h) = absurd h
  or_short n (Code.v_ifnzro t m C) S room hosted (ends (suc k) h) = leads k h
  or_short n (Code.v_ifzero t m C) S room hosted (ends zero h) = absurd h
  or_short n (Code.v_ifzero t m C) S room hosted (ends (suc k) h) = label_law μ (front C) (λ D l s. hosted D l (more s)) (ends k h)
  or_short n (Code.v_rest C) S room hosted h = short_law (pos 1) n C S room hosted h

  pub or_rest : (n : ℕ) {C : Code} (v : View C) (S : List ℤ) {ρ : Rest} {o : Finish} → Hosts μ (or_before n v).rest → Run μ C S ρ o → Run μ (or_before n v).rest S ρ o
  unfolding EndsIn or_before
  or_rest n (Code.v_add m C) S hosted h = short_rest (pos 1) n _ hosted h
  or_rest n (Code.v_sub m C) S hosted h = short_rest (pos 1) n _ hosted h
  or_rest n (Code.v_div m C) S hosted h = short_rest (pos 1) n _ hosted h
  or_rest n (Code.v_mul m C) S hosted h = short_rest (pos 1) n _ hosted h
  or_rest n (Code.v_eq m v) S hosted h = short_rest (pos 1) n _ hosted h
  or_rest n (Code.v_not m v) S hosted h = short_rest (pos 1) n _ hosted h
  or_rest n (Code.v_pop m C) S hosted h = short_rest (pos 1) n _ hosted h
  or_rest n (Code.v_ifnzro t m C) S hosted h = h
  or_rest n (Code.v_ifzero t m C) S hosted (ends zero h) = absurd h
  or_rest n (Code.v_ifzero t m C) [] hosted (ends (suc k) h) = absurd h
  or_rest n (Code.v_ifzero t m C) (x ∷ S) {ρ} {o} hosted (ends (suc k) h) = go (is_zero x) refl h
    where
      go : (b : Bool) → is_zero x ≡ b → if b (Lands μ t ρ o (λ D ρ'. In μ k D S ρ' o)) (In μ k C S ρ o) → Run μ (Code.ifzero t m ∷ labelled C) (x ∷ S) ρ o
      go true e q = ifzero_taken μ t m (labelled C) x e (leads k q)
      go false e q = ifzero_passed μ t m x e (labels_law μ (front C) (ends k q))
  or_rest n (Code.v_rest C) S hosted h = short_rest (pos 1) n C hosted h
