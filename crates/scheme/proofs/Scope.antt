-- Jumps lead where they should: to a label in the code that follows, or to the start of a while that is open there.
use Rattle.std.proofs.Common.{◌≡◌, ℕ, zero, suc, ◌+◌, ◌≤◌, Bool, true, false, cond, eqb, ◌⊎◌, List, [], ◌∷◌, ℤ, pos, negsuc, sym, refl, subst, inl, inr, arith}
use Rattle.answer.specs.Numbers.{no_place}
use Rattle.meaning.specs.Words.{is_zero, flag, eq_z, Operator}
use Rattle.meaning.specs.Words
use Rattle.meaning.specs.Tree.{Expr, Args, Stmt, Function, Script}
use Rattle.meaning.specs.Tree
use Rattle.scheme.specs.Code.{Code, Target, Item, is_label, size, View, view, Front, front, Jumps, jumps}
use Rattle.scheme.specs.Code
use Rattle.scheme.specs.Writing.{dead, write_goto, add_goto, not_before, cst_before, add_cst, target_of, labelled_of, target, labelled, left_by, jump_by, and_before, and_way, or_before, or_way, short_way}
use Rattle.scheme.specs.Scheme.{operator_code, element_code, expr_code, args_code, stmt_code, zeros_code, functions_code, script_code}
use Rattle.scheme.specs.Laws.{Suffix, same, more, Keeps, JumpTo, by_goto, by_ifzero, by_ifnzro}
use Rattle.scheme.proofs.Keep.{keeps_trans, keeps_dead, keeps_GOTO, keeps_cst, keeps_labelled, keeps_jump, keeps_expr, keeps_stmt}

abbrev pub In : ℕ → List ℕ → Type 0
In w [] = ⊥
In w (v ∷ ws) = (w ≡ v) ⊎ In w ws

abbrev pub Tgt : List ℕ → Code → Target → Type 0
Tgt ws C (Code.behind n) = (j : Item) × (D : Code) × (is_label j ≡ true) × Suffix (j ∷ D) C × (size D ≡ n)
Tgt ws C (Code.loop w) = In w ws

abbrev pub Leads : List ℕ → Item → Code → Type 0
Leads ws (Code.csti i m) C = Unit {0}
Leads ws (Code.plain p m) C = Unit {0}
Leads ws (Code.pop m) C = Unit {0}
Leads ws (Code.goto t m) C = Tgt ws C t
Leads ws (Code.ifzero t m) C = Tgt ws C t
Leads ws (Code.ifnzro t m) C = Tgt ws C t
Leads ws (Code.call m f n) C = Unit {0}
Leads ws (Code.tcall m k f n) C = Unit {0}
Leads ws (Code.ret k n) C = Unit {0}
Leads ws Code.ldargs C = Unit {0}
Leads ws Code.stop C = Unit {0}
Leads ws Code.label C = Unit {0}
Leads ws (Code.loop_at w) C = Unit {0}
Leads ws (Code.entry f) C = Unit {0}

abbrev pub opened : Item → List ℕ → List ℕ
opened (Code.csti i m) ws = ws
opened (Code.plain p m) ws = ws
opened (Code.pop m) ws = ws
opened (Code.goto t m) ws = ws
opened (Code.ifzero t m) ws = ws
opened (Code.ifnzro t m) ws = ws
opened (Code.call m f n) ws = ws
opened (Code.tcall m k f n) ws = ws
opened (Code.ret k n) ws = ws
opened Code.ldargs ws = ws
opened Code.stop ws = ws
opened Code.label ws = ws
opened (Code.loop_at w) ws = w ∷ ws
opened (Code.entry f) ws = ws

abbrev pub Scoped : List ℕ → Code → Type 0
Scoped ws [] = Unit {0}
Scoped ws (i ∷ C) = Leads ws i C × Scoped (opened i ws) C

tgt_keeps : (ws : List ℕ) (t : Target) {A C : Code} → Keeps A C → Tgt ws C t → Tgt ws A t
tgt_keeps ws (Code.behind n) k h = (h.0, h.1, h.2, k (h.0 ∷ h.1) h.2 h.3, h.4)
tgt_keeps ws (Code.loop w) k h = h

abbrev Sub : List ℕ → List ℕ → Type 0
Sub vs ws = (w : ℕ) → In w vs → In w ws

tgt_sub : (vs ws : List ℕ) (C : Code) (t : Target) → Sub vs ws → Tgt vs C t → Tgt ws C t
tgt_sub vs ws C (Code.behind n) f h = h
tgt_sub vs ws C (Code.loop w) f h = f w h

sub_more : (v : ℕ) (vs ws : List ℕ) → Sub vs ws → Sub (v ∷ vs) (v ∷ ws)
sub_more v vs ws f w (inl e) = inl e
sub_more v vs ws f w (inr h) = inr (f w h)

scoped_sub : (vs ws : List ℕ) (C : Code) → Sub vs ws → Scoped vs C → Scoped ws C
scoped_sub vs ws [] f h = tt
scoped_sub vs ws (Code.csti i m ∷ C) f h = (tt, scoped_sub vs ws C f h.1)
scoped_sub vs ws (Code.plain p m ∷ C) f h = (tt, scoped_sub vs ws C f h.1)
scoped_sub vs ws (Code.pop m ∷ C) f h = (tt, scoped_sub vs ws C f h.1)
scoped_sub vs ws (Code.goto t m ∷ C) f h = (tgt_sub vs ws C t f h.0, scoped_sub vs ws C f h.1)
scoped_sub vs ws (Code.ifzero t m ∷ C) f h = (tgt_sub vs ws C t f h.0, scoped_sub vs ws C f h.1)
scoped_sub vs ws (Code.ifnzro t m ∷ C) f h = (tgt_sub vs ws C t f h.0, scoped_sub vs ws C f h.1)
scoped_sub vs ws (Code.call m g n ∷ C) f h = (tt, scoped_sub vs ws C f h.1)
scoped_sub vs ws (Code.tcall m k g n ∷ C) f h = (tt, scoped_sub vs ws C f h.1)
scoped_sub vs ws (Code.ret k n ∷ C) f h = (tt, scoped_sub vs ws C f h.1)
scoped_sub vs ws (Code.ldargs ∷ C) f h = (tt, scoped_sub vs ws C f h.1)
scoped_sub vs ws (Code.stop ∷ C) f h = (tt, scoped_sub vs ws C f h.1)
scoped_sub vs ws (Code.label ∷ C) f h = (tt, scoped_sub vs ws C f h.1)
scoped_sub vs ws (Code.loop_at w ∷ C) f h = (tt, scoped_sub (w ∷ vs) (w ∷ ws) C (sub_more w vs ws f) h.1)
scoped_sub vs ws (Code.entry g ∷ C) f h = (tt, scoped_sub vs ws C f h.1)

module _ (lengths ws : List ℕ) where
  sc_dead : (C : Code) → Scoped ws C → Scoped ws (dead C)
  unfolding dead
  sc_dead [] h = tt
  sc_dead (Code.csti i m ∷ C) h = sc_dead C h.1
  sc_dead (Code.plain p m ∷ C) h = sc_dead C h.1
  sc_dead (Code.pop m ∷ C) h = sc_dead C h.1
  sc_dead (Code.goto t m ∷ C) h = sc_dead C h.1
  sc_dead (Code.ifzero t m ∷ C) h = sc_dead C h.1
  sc_dead (Code.ifnzro t m ∷ C) h = sc_dead C h.1
  sc_dead (Code.call m f n ∷ C) h = sc_dead C h.1
  sc_dead (Code.tcall m k f n ∷ C) h = sc_dead C h.1
  sc_dead (Code.ret k n ∷ C) h = sc_dead C h.1
  sc_dead (Code.ldargs ∷ C) h = sc_dead C h.1
  sc_dead (Code.stop ∷ C) h = sc_dead C h.1
  sc_dead (Code.label ∷ C) h = h
  sc_dead (Code.loop_at w ∷ C) h = h
  sc_dead (Code.entry f ∷ C) h = h

  sc_if : (b : Bool) (A B : Code) → Scoped ws A → Scoped ws B → Scoped ws (cond b (A) (B))
  sc_if true A B f g = f
  sc_if false A B f g = g

  sc_goto : (t : Target) (m : ℕ) (C : Code) → Tgt ws C t → Scoped ws C → Scoped ws (add_goto t m C)
  unfolding write_goto
  sc_goto (Code.behind n) m C t h =
      sc_if (eqb n (size (dead C))) (dead C) (Code.goto (Code.behind n) m ∷ dead C) (sc_dead C h) (tgt_keeps ws (Code.behind n) (keeps_dead C) t, sc_dead C h)
  sc_goto (Code.loop w) m C t h = (t, sc_dead C h)

  sc_not : (n : ℕ) {C : Code} (v : View C) → Scoped ws C → Scoped ws (not_before n v)
  unfolding not_before
  sc_not n (Code.v_add m C) h = (tt, h)
  sc_not n (Code.v_sub m C) h = (tt, h)
  sc_not n (Code.v_div m C) h = (tt, h)
  sc_not n (Code.v_mul m C) h = (tt, h)
  sc_not n (Code.v_eq m v) h = (tt, h)
  sc_not n (Code.v_not m v) h = (tt, h)
  sc_not n (Code.v_pop m C) h = (tt, h)
  sc_not n (Code.v_ifzero t m C) h = h
  sc_not n (Code.v_ifnzro t m C) h = h
  sc_not n (Code.v_rest C) h = (tt, h)

  sc_cst : (i : ℤ) (n : ℕ) {C : Code} (v : View C) → Scoped ws C → Scoped ws (cst_before i n v)
  unfolding cst_before
  sc_cst i n (Code.v_add m C) h = sc_if (is_zero i) (C) (Code.csti i n ∷ Code.plain Code.add m ∷ C) h.1 (tt, h)
  sc_cst i n (Code.v_sub m C) h = sc_if (is_zero i) (C) (Code.csti i n ∷ Code.plain Code.sub m ∷ C) h.1 (tt, h)
  sc_cst i n (Code.v_div m C) h = sc_if (eq_z i (pos 1)) (C) (Code.csti i n ∷ Code.plain Code.div m ∷ C) h.1 (tt, h)
  sc_cst i n (Code.v_mul m C) h = sc_if (eq_z i (pos 1)) (C) (Code.csti i n ∷ Code.plain Code.mul m ∷ C) h.1 (tt, h)
  sc_cst i n (Code.v_eq m {C} v) h = sc_if (is_zero i) (not_before m v) (Code.csti i n ∷ Code.plain Code.eq m ∷ C) (sc_not m v h.1) (tt, h)
  sc_cst i n (Code.v_not m v) h = sc_cst (flag (is_zero i)) n v h.1
  sc_cst i n (Code.v_pop m C) h = h.1
  sc_cst i n (Code.v_ifzero t m C) h = sc_if (is_zero i) (add_goto t m C) (C) (sc_goto t m C h.0 h.1) h.1
  sc_cst i n (Code.v_ifnzro t m C) h = sc_if (is_zero i) (C) (add_goto t m C) h.1 (sc_goto t m C h.0 h.1)
  sc_cst i n (Code.v_rest C) h = (tt, h)

  sc_target : {C : Code} (f : Front C) (X : Code) → Keeps X (labelled_of f) → Scoped ws C → Tgt ws X (target_of f)
  unfolding target_of labelled_of
  sc_target (Code.f_goto t m C) X k h = tgt_keeps ws t (λ D l s. k D l (more s)) h.0
  sc_target (Code.f_rest C) X k h = (Code.label, C, refl, k (Code.label ∷ C) refl same, refl)

  sc_labelled : {C : Code} (f : Front C) → Scoped ws C → Scoped ws (labelled_of f)
  unfolding labelled_of
  sc_labelled (Code.f_goto t m C) h = h
  sc_labelled (Code.f_rest C) h = (tt, h)

  sc_left : (C : Code) (j : Jumps C) → Scoped ws C → Scoped ws (left_by C j)
  unfolding left_by
  sc_left C (Code.j_ret k r) h = h
  sc_left C Code.j_goes h = sc_labelled (front C) h

  sc_jump : (C : Code) (j : Jumps C) (m : ℕ) (D : Code) → Keeps D (left_by C j) → Scoped ws C → Scoped ws D → Scoped ws (jump_by C j m D)
  unfolding jump_by left_by
  sc_jump C (Code.j_ret k r) m D kp h g = (tt, sc_dead D g)
  sc_jump C Code.j_goes m D kp h g = sc_goto (target C) m D (sc_target (front C) D kp h) g

  sc_short : (i : ℤ) (n : ℕ) (C : Code) → Scoped ws C → Scoped ws (short_way i n C).rest × ((X : Code) → Keeps X (short_way i n C).rest → Tgt ws X (short_way i n C).to)
  sc_short i n C h =
      let L = left_by C (jumps C) in
      let D = add_cst i n L in
      let hd : Scoped ws D = sc_cst i n (view L) (sc_left C (jumps C) h) in (
        sc_jump C (jumps C) n (labelled D) (keeps_trans {B = D} (keeps_labelled (front D)) (keeps_cst i n (view L))) h (sc_labelled (front D) hd),
        (λ X k. sc_target (front D) X (keeps_trans {B = (short_way i n C).rest} k (keeps_jump C (jumps C) n (labelled D))) hd),
      )

  sc_and : (n : ℕ) {C : Code} (v : View C) → Scoped ws C → Scoped ws (and_before n v).rest × ((X : Code) → Keeps X (and_before n v).rest → Tgt ws X (and_before n v).to)
  unfolding and_before
  sc_and n (Code.v_add m C) h = sc_short (pos 0) n _ h
  sc_and n (Code.v_sub m C) h = sc_short (pos 0) n _ h
  sc_and n (Code.v_div m C) h = sc_short (pos 0) n _ h
  sc_and n (Code.v_mul m C) h = sc_short (pos 0) n _ h
  sc_and n (Code.v_eq m v) h = sc_short (pos 0) n _ h
  sc_and n (Code.v_not m v) h = sc_short (pos 0) n _ h
  sc_and n (Code.v_pop m C) h = sc_short (pos 0) n _ h
  sc_and n (Code.v_ifzero t m C) h = (h, (λ X k. tgt_keeps ws t (λ D l s. k D l (more s)) h.0))
  sc_and n (Code.v_ifnzro t m C) h =
      ((tgt_keeps ws t (keeps_labelled (front C)) h.0, sc_labelled (front C) h.1), (λ X k. sc_target (front C) X (λ D l s. k D l (more s)) h.1))
  sc_and n (Code.v_rest C) h = sc_short (pos 0) n C h

  sc_or : (n : ℕ) {C : Code} (v : View C) → Scoped ws C → Scoped ws (or_before n v).rest × ((X : Code) → Keeps X (or_before n v).rest → Tgt ws X (or_before n v).to)
  unfolding or_before
  sc_or n (Code.v_add m C) h = sc_short (pos 1) n _ h
  sc_or n (Code.v_sub m C) h = sc_short (pos 1) n _ h
  sc_or n (Code.v_div m C) h = sc_short (pos 1) n _ h
  sc_or n (Code.v_mul m C) h = sc_short (pos 1) n _ h
  sc_or n (Code.v_eq m v) h = sc_short (pos 1) n _ h
  sc_or n (Code.v_not m v) h = sc_short (pos 1) n _ h
  sc_or n (Code.v_pop m C) h = sc_short (pos 1) n _ h
  sc_or n (Code.v_ifnzro t m C) h = (h, (λ X k. tgt_keeps ws t (λ D l s. k D l (more s)) h.0))
  sc_or n (Code.v_ifzero t m C) h =
      ((tgt_keeps ws t (keeps_labelled (front C)) h.0, sc_labelled (front C) h.1), (λ X k. sc_target (front C) X (λ D l s. k D l (more s)) h.1))
  sc_or n (Code.v_rest C) h = sc_short (pos 1) n C h

  sc_operator : (o : Operator) (n : ℕ) (C : Code) → Scoped ws C → Scoped ws (operator_code o n C)
  sc_operator Words.add n C h = (tt, h)
  sc_operator Words.sub n C h = (tt, h)
  sc_operator Words.mul n C h = (tt, h)
  sc_operator Words.div n C h = (tt, h)
  sc_operator Words.rem n C h = (tt, h)
  sc_operator Words.eq n C h = (tt, h)
  sc_operator Words.lt n C h = (tt, h)
  sc_operator Words.ne n C h = (tt, sc_not n (view C) h)
  sc_operator Words.ge n C h = (tt, sc_not n (view C) h)
  sc_operator Words.gt n C h = (tt, (tt, h))
  sc_operator Words.le n C h = (tt, (tt, sc_not n (view C) h))

  sc_element : (n len w : ℕ) (C : Code) → Scoped ws C → Scoped ws (element_code n len w C)
  sc_element n len w C h =
      let O = add_cst (pos w) n (Code.plain Code.add n ∷ C) in
      let E = Code.csti (negsuc 0) n ∷ Code.plain Code.ldi n ∷ Code.label ∷ O in (
        tt,
        (
          tt,
          (
            tt,
            (
              (Code.label, E, refl, more (more (more (more same))), refl),
              (
                tt,
                (
                  tt,
                  (
                    tt,
                    (
                      (Code.label, O, refl, more (more (more same)), refl),
                      (tt, (tt, (tt, (tt, sc_cst (pos w) n (view _) (tt, h))))),
                    ),
                  ),
                ),
              ),
            ),
          ),
        ),
      )

  mutual
    unfolding expr_code args_code

    sc_expr : (e : Expr) (C : Code) → Scoped ws C → Scoped ws (expr_code lengths e C)
    sc_expr (Tree.constant n i) C h = sc_cst i n (view C) h
    sc_expr (Tree.local n k) C h = (tt, sc_cst (pos k) n (view _) (tt, (tt, h)))
    sc_expr (Tree.set_local n k e) C h = (tt, sc_cst (pos k) n (view _) (tt, sc_expr e _ (tt, h)))
    sc_expr (Tree.negation n e) C h = sc_expr e _ (sc_not n (view C) h)
    sc_expr (Tree.binary n o e f) C h = sc_expr e _ (sc_expr f _ (sc_operator o n C h))
    sc_expr (Tree.global n g) C h = sc_cst _ n (view _) (tt, h)
    sc_expr (Tree.element n g e) C h = sc_expr e _ (sc_element n _ _ _ (tt, h))
    sc_expr (Tree.set_global n g e) C h = sc_cst _ n (view _) (sc_expr e _ (tt, h))
    sc_expr (Tree.set_element n g e f) C h = sc_expr e _ (sc_element n _ _ _ (sc_expr f _ (tt, h)))
    sc_expr (Tree.print n e) C h = sc_expr e _ (tt, h)
    sc_expr (Tree.either n e f) C h =
        let w = sc_or n (view C) h in
        sc_expr e _ (w.1 (expr_code lengths f (or_way n C).rest) (keeps_expr lengths f _), sc_expr f _ w.0)
    sc_expr (Tree.both n e f) C h =
        let w = sc_and n (view C) h in
        sc_expr e _ (w.1 (expr_code lengths f (and_way n C).rest) (keeps_expr lengths f _), sc_expr f _ w.0)
    sc_expr (Tree.call n f a) C h = sc_args a _ (tt, h)

    sc_args : (a : Args) (C : Code) → Scoped ws C → Scoped ws (args_code lengths a C)
    sc_args (Tree.none n) C h = h
    sc_args (Tree.also n e a) C h = sc_expr e _ (sc_args a C h)

  sc_zeros : (j : ℕ) (C : Code) → Scoped ws C → Scoped ws (zeros_code j C)
  unfolding zeros_code
  sc_zeros zero C h = h
  sc_zeros (suc j) C h = sc_cst (pos 0) no_place (view (zeros_code j C)) (sc_zeros j C h)

pub sc_stmt : (lengths : List ℕ) (total : ℕ) (s : Stmt) (ws : List ℕ) (C : Code) → Scoped ws C → Scoped ws (stmt_code lengths total s C)
unfolding stmt_code
sc_stmt lengths total (Tree.nothing n) ws C h = h
sc_stmt lengths total (Tree.chain n a b) ws C h = sc_stmt lengths total a ws _ (sc_stmt lengths total b ws C h)
sc_stmt lengths total (Tree.discard n e) ws C h = sc_expr lengths ws e _ (tt, h)
sc_stmt lengths total (Tree.if n e a b) ws C h =
    let L = left_by C (jumps C) in
    let D = stmt_code lengths total b L in
    let J = jump_by C (jumps C) n (labelled D) in
    let hd : Scoped ws D = sc_stmt lengths total b ws L (sc_left lengths ws C (jumps C) h) in
    sc_expr lengths ws e _ (
      sc_target lengths ws (front D) (stmt_code lengths total a J) (keeps_trans {B = J} (keeps_stmt lengths total a J) (keeps_jump C (jumps C) n (labelled D))) hd,
      sc_stmt lengths total a ws J (sc_jump lengths ws C (jumps C) n (labelled D) (keeps_trans {B = D} (keeps_labelled (front D)) (keeps_stmt lengths total b L)) h (sc_labelled lengths ws (front D) hd)),
    )
sc_stmt lengths total (Tree.while n e b) ws C h =
    let G = add_goto (Code.loop n) n (labelled C) in
    let g : Scoped (n ∷ ws) C = scoped_sub ws (n ∷ ws) C (λ w q. inr q) h in (
      tt,
      sc_expr lengths (n ∷ ws) e _ (
        sc_target lengths (n ∷ ws) (front C) (stmt_code lengths total b G) (keeps_trans {B = G} (keeps_stmt lengths total b G) (keeps_GOTO (Code.loop n) n (labelled C))) g,
        sc_stmt lengths total b (n ∷ ws) G (sc_goto lengths (n ∷ ws) (Code.loop n) n (labelled C) (inl refl) (sc_labelled lengths (n ∷ ws) (front C) g)),
      ),
    )
sc_stmt lengths total (Tree.return n e) ws C h = sc_expr lengths ws e _ (tt, sc_dead lengths ws C h)
sc_stmt lengths total (Tree.replace n m f l) ws C h = sc_args lengths ws l _ (tt, sc_dead lengths ws C h)

sc_functions : (lengths : List ℕ) (f : ℕ) (fns : List Function) → Scoped [] (functions_code lengths f fns)
unfolding functions_code
sc_functions lengths f [] = tt
sc_functions lengths f (fn ∷ fns) =
    (tt, sc_zeros lengths [] fn.locals _ (sc_stmt lengths (fn.parameters + fn.locals) fn.body [] _ (sc_cst lengths [] (pos 0) no_place (view _) (tt, sc_dead lengths [] _ (sc_functions lengths (suc f) fns)))))

pub sc_script : (s : Script) → Scoped [] (script_code s)
unfolding script_code
sc_script s = (tt, (tt, (tt, sc_functions s.lengths 0 s.functions)))

pub suffix_size : {D C : Code} → Suffix D C → size D ≤ size C
suffix_size same = omega arith
suffix_size (more s) = let h = suffix_size s in omega arith

pub suffix_tail : {i : Item} {C D : Code} → Suffix (i ∷ C) D → Suffix C D
suffix_tail same = more same
suffix_tail (more s) = more (suffix_tail s)

-- Q stands behind a start of the while w
abbrev pub Behind : Code → ℕ → Code → Type 0
Behind P w Q = (D : Code) × Suffix (Code.loop_at w ∷ D) P × Suffix Q D

closer : {P : Code} {w : ℕ} {i : Item} {Q : Code} → Behind P w (i ∷ Q) → Behind P w Q
closer b = (b.0, b.1, suffix_tail b.2)

opens : (P : Code) (x : Item) (Q : Code) (ws : List ℕ) → ((w : ℕ) → In w ws → Behind P w (x ∷ Q)) → Suffix (x ∷ Q) P → (w : ℕ) → In w (opened x ws) → Behind P w Q
opens P (Code.csti i m) Q ws op at w h = closer (op w h)
opens P (Code.plain p m) Q ws op at w h = closer (op w h)
opens P (Code.pop m) Q ws op at w h = closer (op w h)
opens P (Code.goto t m) Q ws op at w h = closer (op w h)
opens P (Code.ifzero t m) Q ws op at w h = closer (op w h)
opens P (Code.ifnzro t m) Q ws op at w h = closer (op w h)
opens P (Code.call m f n) Q ws op at w h = closer (op w h)
opens P (Code.tcall m k f n) Q ws op at w h = closer (op w h)
opens P (Code.ret k n) Q ws op at w h = closer (op w h)
opens P Code.ldargs Q ws op at w h = closer (op w h)
opens P Code.stop Q ws op at w h = closer (op w h)
opens P Code.label Q ws op at w h = closer (op w h)
opens P (Code.entry f) Q ws op at w h = closer (op w h)
opens P (Code.loop_at v) Q ws op at w (inl e) = subst (λ (x : ℕ). Behind P x Q) (sym e) (Q, at, same)
opens P (Code.loop_at v) Q ws op at w (inr h) = closer (op w h)

-- at an item of a script's code, the whiles that are open there, and where it leads
pub at_item : (P : Code) (i : Item) (C : Code) (ws : List ℕ) (Q : Code) → ((w : ℕ) → In w ws → Behind P w Q) → Scoped ws Q → Suffix Q P → Suffix (i ∷ C) Q
    → (vs : List ℕ) × ((w : ℕ) → In w vs → Behind P w (i ∷ C)) × Leads vs i C
at_item P i C ws Q op sc at same = (ws, op, sc.0)
at_item P i C ws (j ∷ Q) op sc at (more s) = at_item P i C (opened j ws) Q (opens P j Q ws op at) sc.1 (suffix_tail at) s

leads : {t : Target} {i : Item} (vs : List ℕ) (C : Code) → JumpTo t i → Leads vs i C → Tgt vs C t
leads vs C (by_goto m) h = h
leads vs C (by_ifzero m) h = h
leads vs C (by_ifnzro m) h = h

pub forward : (s : Script) (n : ℕ) (i : Item) (C : Code) → JumpTo (Code.behind n) i → Suffix (i ∷ C) (script_code s) → Tgt [] C (Code.behind n)
forward s n i C j at =
    let x = at_item (script_code s) i C [] (script_code s) (λ w h. absurd h) (sc_script s) same at in
    leads x.0 C j x.2

pub back : (s : Script) (w : ℕ) (i : Item) (C : Code) → JumpTo (Code.loop w) i → Suffix (i ∷ C) (script_code s) → Behind (script_code s) w (i ∷ C)
back s w i C j at =
    let x = at_item (script_code s) i C [] (script_code s) (λ v h. absurd h) (sc_script s) same at in
    x.1 w (leads x.0 C j x.2)
