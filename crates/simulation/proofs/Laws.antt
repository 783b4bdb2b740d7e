-- What each writing operation writes in front of code does what the plain instruction there would do. The code of the scheme is followed by
-- these laws alone.
use Rattle.std.proofs.Common.{◌≡◌, ℕ, zero, suc, ◌<◌, Bool, true, false, cond, eqb, List, [], ◌∷◌, length, ℤ, pos, refl, ◌∙◌, subst, arith, eqb-true}
use Rattle.meaning.specs.Words.{is_zero, flag, eq_z}
use Rattle.scheme.specs.Code.{Code, Plain, Target, is_label, size, View, Front, front, Rets, Jumps}
use Rattle.scheme.specs.Code
use Rattle.scheme.specs.Writing.{dead, write_goto, add_goto, not_before, cst_before, target_of, labelled_of, target, left_by, jump_by}
use Rattle.symbolic.specs.Symbolic.{same, Rest, Finish, EndsIn, ends, leads, if, plainly}
use Rattle.scheme.specs.Laws.{Labelled}
use Rattle.simulation.proofs.Machine.{Machine, In, Run, Lands, To, Hosts, level}
use Rattle.simulation.proofs.Words.{eq_z_true, add_zero, sub_zero, div_one, mul_one}

pub dead-labelled : (C : Code) → Labelled (dead C)
unfolding dead
dead-labelled [] = tt
dead-labelled (i ∷ C) = go (is_label i) refl (dead-labelled C)
  where
    go : (b : Bool) → is_label i ≡ b → Labelled (dead C) → Labelled (cond b (i ∷ C) (dead C))
    go true e l = e
    go false e l = l

module _ (μ : Machine) where
  -- an instruction without operands, if it leads to where C runs
  pub plain_law : (q : Plain) (n : ℕ) {C : Code} {S T : List ℤ} {ρ ρ' : Rest} {o : Finish} → Run μ C T ρ' o
      → ((k : ℕ) → In μ k C T ρ' o → plainly μ.code μ.cap μ.limit μ.board q n S ρ o (λ U ρ''. In μ k C U ρ'' o)) → Run μ (Code.plain q n ∷ C) S ρ o
  unfolding EndsIn
  plain_law q n (ends k h) f = ends (suc k) (f k h)

  -- a jump to labelled code
  pub label_law : {C : Code} (f : Front C) {S : List ℤ} {ρ : Rest} {o : Finish} → Hosts μ (labelled_of f) → Run μ C S ρ o → To μ (target_of f) S ρ o
  unfolding EndsIn labelled_of target_of
  label_law (Code.f_goto t m C) hosted (ends zero h) = absurd h
  label_law (Code.f_goto t m C) hosted (ends (suc k) h) = leads k h
  label_law (Code.f_rest C) hosted (ends k h) = leads (suc k) (Code.label ∷ C, hosted (Code.label ∷ C) refl same, omega arith, h)

  -- a jump that is written, or needs not be
  pub goto_law : (t : Target) (m : ℕ) (C : Code) {S : List ℤ} {ρ : Rest} {o : Finish} → Hosts μ (add_goto t m C) → To μ t S ρ o → Run μ (add_goto t m C) S ρ o
  unfolding EndsIn write_goto
  goto_law (Code.loop w) m C hosted (leads k h) = ends (suc k) h
  goto_law (Code.behind n) m C {S} {ρ} {o} hosted (leads k h) = go (eqb n (size (dead C))) refl hosted
    where
      go : (b : Bool) → eqb n (size (dead C)) ≡ b → Hosts μ (cond b (dead C) (Code.goto (Code.behind n) m ∷ dead C))
          → Run μ (cond b (dead C) (Code.goto (Code.behind n) m ∷ dead C)) S ρ o
      go true q host = level μ h.1 (host (dead C) (dead-labelled C) same) (h.2 ∙ eqb-true n (size (dead C)) q) (ends k h.3)
      go false q host = ends (suc k) h

  -- NOT, written or taken up by the jump that follows
  pub not_law : (n : ℕ) {C : Code} (v : View C) (x : ℤ) {S : List ℤ} {ρ : Rest} {o : Finish} → Run μ C (flag (is_zero x) ∷ S) ρ o → Run μ (not_before n v) (x ∷ S) ρ o
  unfolding EndsIn not_before
  not_law n (Code.v_add m C) x (ends k h) = ends (suc k) h
  not_law n (Code.v_sub m C) x (ends k h) = ends (suc k) h
  not_law n (Code.v_div m C) x (ends k h) = ends (suc k) h
  not_law n (Code.v_mul m C) x (ends k h) = ends (suc k) h
  not_law n (Code.v_eq m v) x (ends k h) = ends (suc k) h
  not_law n (Code.v_not m v) x (ends k h) = ends (suc k) h
  not_law n (Code.v_pop m C) x (ends k h) = ends (suc k) h
  not_law n (Code.v_ifzero t m C) x (ends zero h) = absurd h
  not_law n (Code.v_ifzero t m C) x {S} {ρ} {o} (ends (suc k) h) = ends (suc k) (go (is_zero x) h)
    where
      go : (b : Bool) → if (is_zero (flag b)) (Lands μ t ρ o (λ D ρ'. In μ k D S ρ' o)) (In μ k C S ρ o)
          → if b (In μ k C S ρ o) (Lands μ t ρ o (λ D ρ'. In μ k D S ρ' o))
      go true q = q
      go false q = q
  not_law n (Code.v_ifnzro t m C) x (ends zero h) = absurd h
  not_law n (Code.v_ifnzro t m C) x {S} {ρ} {o} (ends (suc k) h) = ends (suc k) (go (is_zero x) h)
    where
      go : (b : Bool) → if (is_zero (flag b)) (In μ k C S ρ o) (Lands μ t ρ o (λ D ρ'. In μ k D S ρ' o))
          → if b (Lands μ t ρ o (λ D ρ'. In μ k D S ρ' o)) (In μ k C S ρ o)
      go true q = q
      go false q = q
  not_law n (Code.v_rest C) x (ends k h) = ends (suc k) h

  -- a constant is written with its operator, or A stands for both
  vanishes : (q : Plain) (b : Bool) (i : ℤ) (n m k : ℕ) (C A : Code) (S : List ℤ) {ρ : Rest} {o : Finish} → length S < μ.cap → In μ (suc k) (Code.plain q m ∷ C) (i ∷ S) ρ o
      → (b ≡ true → Run μ A S ρ o) → Run μ (cond b A (Code.csti i n ∷ Code.plain q m ∷ C)) S ρ o
  unfolding EndsIn
  vanishes q true i n m k C A S room h f = f refl
  vanishes q false i n m k C A S room h f = ends (suc (suc k)) (room, h)

  -- a constant, written, or taken up by what follows
  pub cst_law : (i : ℤ) (n : ℕ) {C : Code} (v : View C) (S : List ℤ) {ρ : Rest} {o : Finish}
      → length S < μ.cap → Hosts μ (cst_before i n v) → Run μ C (i ∷ S) ρ o → Run μ (cst_before i n v) S ρ o
  unfolding EndsIn cst_before
  cst_law i n (Code.v_add m C) S room hosted (ends zero h) = absurd h
  cst_law i n (Code.v_add m C) [] room hosted (ends (suc k) h) = absurd h
  cst_law i n (Code.v_add m C) (x ∷ S) room hosted (ends (suc k) h) =
      vanishes Code.add (is_zero i) i n m k C C (x ∷ S) room h (λ e. ends k (rw (add_zero x i e h.0) at h.1))
  cst_law i n (Code.v_sub m C) S room hosted (ends zero h) = absurd h
  cst_law i n (Code.v_sub m C) [] room hosted (ends (suc k) h) = absurd h
  cst_law i n (Code.v_sub m C) (x ∷ S) room hosted (ends (suc k) h) =
      vanishes Code.sub (is_zero i) i n m k C C (x ∷ S) room h (λ e. ends k (rw (sub_zero x i e h.0) at h.1))
  cst_law i n (Code.v_mul m C) S room hosted (ends zero h) = absurd h
  cst_law i n (Code.v_mul m C) [] room hosted (ends (suc k) h) = absurd h
  cst_law i n (Code.v_mul m C) (x ∷ S) room hosted (ends (suc k) h) =
      vanishes Code.mul (eq_z i (pos 1)) i n m k C C (x ∷ S) room h (λ e. ends k (rw (mul_one x i e h.0) at h.1))
  cst_law i n (Code.v_div m C) S room hosted (ends zero h) = absurd h
  cst_law i n (Code.v_div m C) [] room hosted (ends (suc k) h) = absurd h
  cst_law i n (Code.v_div m C) (x ∷ S) {ρ} {o} room hosted (ends (suc k) h) =
      vanishes Code.div (eq_z i (pos 1)) i n m k C C (x ∷ S) room h (λ e.
      let g : In μ (suc k) (Code.plain Code.div m ∷ C) (pos 1 ∷ x ∷ S) ρ o = subst (λ (j : ℤ). In μ (suc k) (Code.plain Code.div m ∷ C) (j ∷ x ∷ S) ρ o) (eq_z_true i (pos 1) e) h in
      ends k (rw (div_one x h.0) at g.1))
  cst_law i n (Code.v_eq m v) S room hosted (ends zero h) = absurd h
  cst_law i n (Code.v_eq m v) [] room hosted (ends (suc k) h) = absurd h
  cst_law i n (Code.v_eq m {C} v) (x ∷ S) {ρ} {o} room hosted (ends (suc k) h) =
      vanishes Code.eq (is_zero i) i n m k C (not_before m v) (x ∷ S) room h
      (λ e. not_law m v x (ends k (subst (λ (j : ℤ). In μ k C (flag (eq_z x j) ∷ S) ρ o) (eq_z_true i (pos 0) e) h)))
  cst_law i n (Code.v_not m v) S room hosted (ends zero h) = absurd h
  cst_law i n (Code.v_not m v) S room hosted (ends (suc k) h) = cst_law (flag (is_zero i)) n v S room hosted (ends k h)
  cst_law i n (Code.v_pop m C) S room hosted (ends zero h) = absurd h
  cst_law i n (Code.v_pop m C) S room hosted (ends (suc k) h) = ends k h
  cst_law i n (Code.v_ifzero t m C) S room hosted (ends zero h) = absurd h
  cst_law i n (Code.v_ifzero t m C) S {ρ} {o} room hosted (ends (suc k) h) = go (is_zero i) hosted h
    where
      go : (b : Bool) → Hosts μ (cond b (add_goto t m C) C)
          → if b (Lands μ t ρ o (λ D ρ'. In μ k D S ρ' o)) (In μ k C S ρ o) → Run μ (cond b (add_goto t m C) C) S ρ o
      go true host q = goto_law t m C host (leads k q)
      go false host q = ends k q
  cst_law i n (Code.v_ifnzro t m C) S room hosted (ends zero h) = absurd h
  cst_law i n (Code.v_ifnzro t m C) S {ρ} {o} room hosted (ends (suc k) h) = go (is_zero i) hosted h
    where
      go : (b : Bool) → Hosts μ (cond b C (add_goto t m C))
          → if b (In μ k C S ρ o) (Lands μ t ρ o (λ D ρ'. In μ k D S ρ' o)) → Run μ (cond b C (add_goto t m C)) S ρ o
      go true host q = ends k q
      go false host q = goto_law t m C host (leads k q)
  cst_law i n (Code.v_rest C) S room hosted (ends k h) = ends (suc k) (room, h)

  -- a label, set or not, and what an unconditional jump leaves
  pub labels_law : {C : Code} (f : Front C) {S : List ℤ} {ρ : Rest} {o : Finish} → Run μ C S ρ o → Run μ (labelled_of f) S ρ o
  unfolding EndsIn labelled_of
  labels_law (Code.f_goto t m C) h = h
  labels_law (Code.f_rest C) (ends k h) = ends (suc k) h

  pub left_law : (C : Code) (j : Jumps C) {S : List ℤ} {ρ : Rest} {o : Finish} → Run μ C S ρ o → Run μ (left_by C j) S ρ o
  unfolding left_by
  left_law C (Code.j_ret k r) h = h
  left_law C Code.j_goes h = labels_law (front C) h

  -- a return may be written where a jump would go to one
  ret_law : {j : ℕ} {C : Code} → Rets j C → (m : ℕ) (X : Code) {S : List ℤ} {ρ : Rest} {o : Finish} → Run μ C S ρ o → Run μ (Code.ret j m ∷ X) S ρ o
  unfolding EndsIn
  ret_law (Code.r_now j n C) m X (ends zero h) = absurd h
  ret_law (Code.r_now j n C) m X (ends (suc k) h) = ends (suc k) h
  ret_law (Code.r_label r) m X (ends zero h) = absurd h
  ret_law (Code.r_label r) m X (ends (suc k) h) = ret_law r m X (ends k h)
  ret_law (Code.r_loop w r) m X (ends zero h) = absurd h
  ret_law (Code.r_loop w r) m X (ends (suc k) h) = ret_law r m X (ends k h)
  ret_law (Code.r_entry f r) m X (ends zero h) = absurd h
  ret_law (Code.r_entry f r) m X (ends (suc k) h) = ret_law r m X (ends k h)

  -- what follows a return or a call that replaces is never reached
  pub ret_any : (j m n : ℕ) (X Y : Code) {S : List ℤ} {ρ : Rest} {o : Finish} → Run μ (Code.ret j m ∷ X) S ρ o → Run μ (Code.ret j n ∷ Y) S ρ o
  ret_any j m n X Y h = ret_law (Code.r_now j m X) n Y h

  pub tcall_any : (j k f n : ℕ) (X Y : Code) {S : List ℤ} {ρ : Rest} {o : Finish} → Run μ (Code.tcall j k f n ∷ X) S ρ o → Run μ (Code.tcall j k f n ∷ Y) S ρ o
  unfolding EndsIn
  tcall_any j k f n X Y (ends zero h) = absurd h
  tcall_any j k f n X Y (ends (suc i) h) = ends (suc i) h

  -- an unconditional jump to C, before D
  pub jump_law : (C : Code) (j : Jumps C) (m : ℕ) (D : Code) {S : List ℤ} {ρ : Rest} {o : Finish}
      → Hosts μ (jump_by C j m D) → Hosts μ (left_by C j) → Run μ C S ρ o → Run μ (jump_by C j m D) S ρ o
  unfolding jump_by left_by
  jump_law C (Code.j_ret k r) m D hosted hostedL h = ret_law r m (dead D) h
  jump_law C Code.j_goes m D hosted hostedL h = goto_law (target C) m D hosted (label_law (front C) hostedL h)

  -- conditional jumps
  pub ifzero_taken : (t : Target) (m : ℕ) (C : Code) (x : ℤ) {S : List ℤ} {ρ : Rest} {o : Finish} → is_zero x ≡ true → To μ t S ρ o → Run μ (Code.ifzero t m ∷ C) (x ∷ S) ρ o
  unfolding EndsIn
  ifzero_taken t m C x e (leads k h) = ends (suc k) (rw e h)

  pub ifzero_passed : (t : Target) (m : ℕ) {C : Code} (x : ℤ) {S : List ℤ} {ρ : Rest} {o : Finish} → is_zero x ≡ false → Run μ C S ρ o → Run μ (Code.ifzero t m ∷ C) (x ∷ S) ρ o
  unfolding EndsIn
  ifzero_passed t m x e (ends k h) = ends (suc k) (rw e h)

  pub ifnzro_passed : (t : Target) (m : ℕ) {C : Code} (x : ℤ) {S : List ℤ} {ρ : Rest} {o : Finish} → is_zero x ≡ true → Run μ C S ρ o → Run μ (Code.ifnzro t m ∷ C) (x ∷ S) ρ o
  unfolding EndsIn
  ifnzro_passed t m x e (ends k h) = ends (suc k) (rw e h)

  pub ifnzro_taken : (t : Target) (m : ℕ) (C : Code) (x : ℤ) {S : List ℤ} {ρ : Rest} {o : Finish} → is_zero x ≡ false → To μ t S ρ o → Run μ (Code.ifnzro t m ∷ C) (x ∷ S) ρ o
  unfolding EndsIn
  ifnzro_taken t m C x e (leads k h) = ends (suc k) (rw e h)

  pub ifzero_law : (t : Target) (m : ℕ) (C : Code) (x : ℤ) (S : List ℤ) (ρ : Rest) (o : Finish)
      → (is_zero x ≡ true → To μ t S ρ o) → (is_zero x ≡ false → Run μ C S ρ o) → Run μ (Code.ifzero t m ∷ C) (x ∷ S) ρ o
  ifzero_law t m C x S ρ o f g = go (is_zero x) refl
    where
      go : (b : Bool) → is_zero x ≡ b → Run μ (Code.ifzero t m ∷ C) (x ∷ S) ρ o
      go true e = ifzero_taken t m C x e (f e)
      go false e = ifzero_passed t m x e (g e)

  pub ifnzro_law : (t : Target) (m : ℕ) (C : Code) (x : ℤ) (S : List ℤ) (ρ : Rest) (o : Finish)
      → (is_zero x ≡ false → To μ t S ρ o) → (is_zero x ≡ true → Run μ C S ρ o) → Run μ (Code.ifnzro t m ∷ C) (x ∷ S) ρ o
  ifnzro_law t m C x S ρ o f g = go (is_zero x) refl
    where
      go : (b : Bool) → is_zero x ≡ b → Run μ (Code.ifnzro t m ∷ C) (x ∷ S) ρ o
      go true e = ifnzro_passed t m x e (g e)
      go false e = ifnzro_taken t m C x e (f e)
