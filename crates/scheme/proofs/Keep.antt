-- Labelled code is never dropped.
use Rattle.std.proofs.Common.{◌≡◌, ℕ, zero, suc, ◌+◌, Bool, true, false, cond, eqb, List, [], ◌∷◌, get_or, ℤ, pos, refl, arith}
use Rattle.answer.specs.Numbers.{no_place}
use Rattle.meaning.specs.Words.{is_zero, flag, eq_z, Operator}
use Rattle.meaning.specs.Words
use Rattle.meaning.specs.Meaning.{first_word}
use Rattle.meaning.specs.Tree.{Expr, Args, Stmt, Function}
use Rattle.meaning.specs.Tree
use Rattle.scheme.specs.Code.{Code, Target, Item, is_label, size, View, view, Front, front, Jumps, jumps}
use Rattle.scheme.specs.Code
use Rattle.scheme.specs.Writing.{dead, write_goto, add_goto, not_before, cst_before, add_not, add_cst, labelled_of, target, labelled, left_by, jump_by, and_before, and_way, or_before, or_way, short_way}
use Rattle.scheme.specs.Scheme.{operator_code, element_code, count, expr_code, args_code, stmt_code, zeros_code, body_code, functions_code}
use Rattle.scheme.specs.Laws.{same, more, Keeps}

pub keeps_same : (C : Code) → Keeps C C
keeps_same C D l s = s

pub keeps_trans : {A B C : Code} → Keeps A B → Keeps B C → Keeps A C
keeps_trans f g D l s = f D l (g D l s)

pub keeps_more : (i : Item) {A C : Code} → Keeps A C → Keeps (i ∷ A) C
keeps_more i f D l s = more (f D l s)

pub keeps_drop : (i : Item) (C : Code) → is_label i ≡ false → Keeps C (i ∷ C)
keeps_drop i C e D l same = absurd (let z : ◌≡◌ {A = ℕ} 0 1 = cc in omega arith)
keeps_drop i C e D l (more s) = s

pub keeps_if : (b : Bool) {A B C : Code} → Keeps A C → Keeps B C → Keeps (cond b (A) (B)) C
keeps_if true f g = f
keeps_if false f g = g

pub keeps_dead : (C : Code) → Keeps (dead C) C
unfolding dead
keeps_dead [] = keeps_same []
keeps_dead (i ∷ C) = go (is_label i) refl (keeps_dead C)
  where
    go : (b : Bool) → is_label i ≡ b → Keeps (dead C) C → Keeps (cond b (i ∷ C) (dead C)) (i ∷ C)
    go true e f = keeps_same (i ∷ C)
    go false e f = keeps_trans {B = C} f (keeps_drop i C e)

pub keeps_write : (t : Target) (m : ℕ) (C : Code) → Keeps (write_goto t m C) C
unfolding write_goto
keeps_write (Code.behind n) m C = keeps_if (eqb n (size C)) (keeps_same C) (keeps_more _ (keeps_same C))
keeps_write (Code.loop w) m C = keeps_more _ (keeps_same C)

pub keeps_GOTO : (t : Target) (m : ℕ) (C : Code) → Keeps (add_goto t m C) C
keeps_GOTO t m C = keeps_trans {B = dead C} (keeps_write t m (dead C)) (keeps_dead C)

pub keeps_not : (n : ℕ) {C : Code} (v : View C) → Keeps (not_before n v) C
unfolding not_before
keeps_not n (Code.v_add m C) = keeps_more _ (keeps_same _)
keeps_not n (Code.v_sub m C) = keeps_more _ (keeps_same _)
keeps_not n (Code.v_div m C) = keeps_more _ (keeps_same _)
keeps_not n (Code.v_mul m C) = keeps_more _ (keeps_same _)
keeps_not n (Code.v_eq m v) = keeps_more _ (keeps_same _)
keeps_not n (Code.v_not m v) = keeps_more _ (keeps_same _)
keeps_not n (Code.v_pop m C) = keeps_more _ (keeps_same _)
keeps_not n (Code.v_ifzero t m C) = keeps_more _ (keeps_drop _ C refl)
keeps_not n (Code.v_ifnzro t m C) = keeps_more _ (keeps_drop _ C refl)
keeps_not n (Code.v_rest C) = keeps_more _ (keeps_same _)

pub keeps_cst : (i : ℤ) (n : ℕ) {C : Code} (v : View C) → Keeps (cst_before i n v) C
unfolding cst_before
keeps_cst i n (Code.v_add m C) = keeps_if (is_zero i) (keeps_drop _ C refl) (keeps_more _ (keeps_same _))
keeps_cst i n (Code.v_sub m C) = keeps_if (is_zero i) (keeps_drop _ C refl) (keeps_more _ (keeps_same _))
keeps_cst i n (Code.v_div m C) = keeps_if (eq_z i (pos 1)) (keeps_drop _ C refl) (keeps_more _ (keeps_same _))
keeps_cst i n (Code.v_mul m C) = keeps_if (eq_z i (pos 1)) (keeps_drop _ C refl) (keeps_more _ (keeps_same _))
keeps_cst i n (Code.v_eq m {C} v) = keeps_if (is_zero i) (keeps_trans {B = C} (keeps_not m v) (keeps_drop _ C refl)) (keeps_more _ (keeps_same _))
keeps_cst i n (Code.v_not m {C} v) = keeps_trans {B = C} (keeps_cst (flag (is_zero i)) n v) (keeps_drop _ C refl)
keeps_cst i n (Code.v_pop m C) = keeps_drop _ C refl
keeps_cst i n (Code.v_ifzero t m C) = keeps_if (is_zero i) (keeps_trans {B = C} (keeps_GOTO t m C) (keeps_drop _ C refl)) (keeps_drop _ C refl)
keeps_cst i n (Code.v_ifnzro t m C) = keeps_if (is_zero i) (keeps_drop _ C refl) (keeps_trans {B = C} (keeps_GOTO t m C) (keeps_drop _ C refl))
keeps_cst i n (Code.v_rest C) = keeps_more _ (keeps_same _)

pub keeps_labelled : {C : Code} (f : Front C) → Keeps (labelled_of f) C
unfolding labelled_of
keeps_labelled (Code.f_goto t m C) = keeps_same _
keeps_labelled (Code.f_rest C) = keeps_more _ (keeps_same _)

pub keeps_left : (C : Code) (j : Jumps C) → Keeps (left_by C j) C
unfolding left_by
keeps_left C (Code.j_ret k r) = keeps_same C
keeps_left C Code.j_goes = keeps_labelled (front C)

pub keeps_jump : (C : Code) (j : Jumps C) (m : ℕ) (D : Code) → Keeps (jump_by C j m D) D
unfolding jump_by
keeps_jump C (Code.j_ret k r) m D = keeps_more _ (keeps_dead D)
keeps_jump C Code.j_goes m D = keeps_GOTO (target C) m D

pub keeps_short : (i : ℤ) (n : ℕ) (C : Code) → Keeps (short_way i n C).rest C
keeps_short i n C =
    let L = left_by C (jumps C) in
    let D = add_cst i n L in
    keeps_trans {B = labelled D} (keeps_jump C (jumps C) n (labelled D))
    (keeps_trans {B = D} (keeps_labelled (front D))
    (keeps_trans {B = L} (keeps_cst i n (view L)) (keeps_left C (jumps C))))

pub keeps_and : (n : ℕ) {C : Code} (v : View C) → Keeps (and_before n v).rest C
unfolding and_before
keeps_and n (Code.v_add m C) = keeps_short (pos 0) n _
keeps_and n (Code.v_sub m C) = keeps_short (pos 0) n _
keeps_and n (Code.v_div m C) = keeps_short (pos 0) n _
keeps_and n (Code.v_mul m C) = keeps_short (pos 0) n _
keeps_and n (Code.v_eq m v) = keeps_short (pos 0) n _
keeps_and n (Code.v_not m v) = keeps_short (pos 0) n _
keeps_and n (Code.v_pop m C) = keeps_short (pos 0) n _
keeps_and n (Code.v_ifzero t m C) = keeps_same _
keeps_and n (Code.v_ifnzro t m C) = keeps_more _ (keeps_trans {B = C} (keeps_labelled (front C)) (keeps_drop _ C refl))
keeps_and n (Code.v_rest C) = keeps_short (pos 0) n C

pub keeps_or : (n : ℕ) {C : Code} (v : View C) → Keeps (or_before n v).rest C
unfolding or_before
keeps_or n (Code.v_add m C) = keeps_short (pos 1) n _
keeps_or n (Code.v_sub m C) = keeps_short (pos 1) n _
keeps_or n (Code.v_div m C) = keeps_short (pos 1) n _
keeps_or n (Code.v_mul m C) = keeps_short (pos 1) n _
keeps_or n (Code.v_eq m v) = keeps_short (pos 1) n _
keeps_or n (Code.v_not m v) = keeps_short (pos 1) n _
keeps_or n (Code.v_pop m C) = keeps_short (pos 1) n _
keeps_or n (Code.v_ifzero t m C) = keeps_more _ (keeps_trans {B = C} (keeps_labelled (front C)) (keeps_drop _ C refl))
keeps_or n (Code.v_ifnzro t m C) = keeps_same _
keeps_or n (Code.v_rest C) = keeps_short (pos 1) n C

pub keeps_operator : (o : Operator) (n : ℕ) (C : Code) → Keeps (operator_code o n C) C
keeps_operator Words.add n C = keeps_more _ (keeps_same _)
keeps_operator Words.sub n C = keeps_more _ (keeps_same _)
keeps_operator Words.mul n C = keeps_more _ (keeps_same _)
keeps_operator Words.div n C = keeps_more _ (keeps_same _)
keeps_operator Words.rem n C = keeps_more _ (keeps_same _)
keeps_operator Words.eq n C = keeps_more _ (keeps_same _)
keeps_operator Words.ne n C = keeps_more _ (keeps_not n (view C))
keeps_operator Words.lt n C = keeps_more _ (keeps_same _)
keeps_operator Words.ge n C = keeps_more _ (keeps_not n (view C))
keeps_operator Words.gt n C = keeps_more _ (keeps_more _ (keeps_same _))
keeps_operator Words.le n C = keeps_more _ (keeps_more _ (keeps_not n (view C)))

pub keeps_element : (n len w : ℕ) (C : Code) → Keeps (element_code n len w C) C
keeps_element n len w C =
    let O = add_cst (pos w) n (Code.plain Code.add n ∷ C) in
    keeps_more _ (keeps_more _ (keeps_more _ (keeps_more _ (keeps_more _ (keeps_more _ (keeps_more _ (keeps_more _ (keeps_more _ (keeps_more _ (keeps_more _ (keeps_more _
    (keeps_trans {B = Code.plain Code.add n ∷ C} (keeps_cst (pos w) n (view _)) (keeps_more _ (keeps_same C))))))))))))))

module _ (lengths : List ℕ) where
  mutual
    unfolding expr_code args_code

    pub keeps_expr : (e : Expr) (C : Code) → Keeps (expr_code lengths e C) C
    keeps_expr (Tree.constant n i) C = keeps_cst i n (view C)
    keeps_expr (Tree.local n k) C = keeps_more _ (keeps_trans {B = _ ∷ _ ∷ C} (keeps_cst (pos k) n (view _)) (keeps_more _ (keeps_more _ (keeps_same C))))
    keeps_expr (Tree.set_local n k e) C =
        keeps_more _ (keeps_trans {B = _ ∷ expr_code lengths e (_ ∷ C)} (keeps_cst (pos k) n (view _)) (keeps_more _ (keeps_trans {B = _ ∷ C} (keeps_expr e _) (keeps_more _ (keeps_same C)))))
    keeps_expr (Tree.negation n e) C = keeps_trans {B = add_not n C} (keeps_expr e _) (keeps_not n (view C))
    keeps_expr (Tree.binary n o e f) C = keeps_trans {B = expr_code lengths f (operator_code o n C)} (keeps_expr e _) (keeps_trans {B = operator_code o n C} (keeps_expr f _) (keeps_operator o n C))
    keeps_expr (Tree.global n g) C = keeps_trans {B = Code.plain Code.ldi n ∷ C} (keeps_cst _ n (view _)) (keeps_more _ (keeps_same C))
    keeps_expr (Tree.element n g e) C = keeps_trans {B = element_code n (get_or lengths g 0) (first_word lengths g) (Code.plain Code.ldi n ∷ C)} (keeps_expr e _)
        (keeps_trans {B = Code.plain Code.ldi n ∷ C} (keeps_element n _ _ _) (keeps_more _ (keeps_same C)))
    keeps_expr (Tree.set_global n g e) C = keeps_trans {B = expr_code lengths e (Code.plain Code.sti n ∷ C)} (keeps_cst _ n (view _)) (keeps_trans {B = Code.plain Code.sti n ∷ C} (keeps_expr e _) (keeps_more _ (keeps_same C)))
    keeps_expr (Tree.set_element n g e f) C = keeps_trans {B = element_code n (get_or lengths g 0) (first_word lengths g) (expr_code lengths f (Code.plain Code.sti n ∷ C))} (keeps_expr e _)
        (keeps_trans {B = expr_code lengths f (Code.plain Code.sti n ∷ C)} (keeps_element n _ _ _) (keeps_trans {B = Code.plain Code.sti n ∷ C} (keeps_expr f _) (keeps_more _ (keeps_same C))))
    keeps_expr (Tree.print n e) C = keeps_trans {B = Code.plain Code.printi n ∷ C} (keeps_expr e _) (keeps_more _ (keeps_same C))
    keeps_expr (Tree.either n e f) C =
        keeps_trans {B = _ ∷ expr_code lengths f (or_way n C).rest} (keeps_expr e _) (keeps_more _ (keeps_trans {B = (or_way n C).rest} (keeps_expr f _) (keeps_or n (view C))))
    keeps_expr (Tree.both n e f) C =
        keeps_trans {B = _ ∷ expr_code lengths f (and_way n C).rest} (keeps_expr e _) (keeps_more _ (keeps_trans {B = (and_way n C).rest} (keeps_expr f _) (keeps_and n (view C))))
    keeps_expr (Tree.call n f a) C = keeps_trans {B = _ ∷ C} (keeps_args a _) (keeps_more _ (keeps_same C))

    pub keeps_args : (a : Args) (C : Code) → Keeps (args_code lengths a C) C
    keeps_args (Tree.none n) C = keeps_same C
    keeps_args (Tree.also n e a) C = keeps_trans {B = args_code lengths a C} (keeps_expr e _) (keeps_args a C)

module _ (lengths : List ℕ) (total : ℕ) where
  pub keeps_stmt : (s : Stmt) (C : Code) → Keeps (stmt_code lengths total s C) C
  unfolding stmt_code
  keeps_stmt (Tree.nothing n) C = keeps_same C
  keeps_stmt (Tree.chain n a b) C = keeps_trans {B = stmt_code lengths total b C} (keeps_stmt a _) (keeps_stmt b C)
  keeps_stmt (Tree.discard n e) C = keeps_trans {B = Code.pop n ∷ C} (keeps_expr lengths e _) (keeps_more _ (keeps_same C))
  keeps_stmt (Tree.if n e a b) C =
      let L = left_by C (jumps C) in
      let D = stmt_code lengths total b L in
      let J = jump_by C (jumps C) n (labelled D) in
      keeps_trans {B = Code.ifzero (target D) n ∷ stmt_code lengths total a J} (keeps_expr lengths e _)
      (keeps_more _ (keeps_trans {B = J} (keeps_stmt a J)
      (keeps_trans {B = labelled D} (keeps_jump C (jumps C) n (labelled D))
      (keeps_trans {B = D} (keeps_labelled (front D)) (keeps_trans {B = L} (keeps_stmt b L) (keeps_left C (jumps C)))))))
  keeps_stmt (Tree.while n e b) C =
      let G = add_goto (Code.loop n) n (labelled C) in
      keeps_more _ (keeps_trans {B = Code.ifzero (target C) n ∷ stmt_code lengths total b G} (keeps_expr lengths e _)
      (keeps_more _ (keeps_trans {B = G} (keeps_stmt b G) (keeps_trans {B = labelled C} (keeps_GOTO (Code.loop n) n (labelled C)) (keeps_labelled (front C))))))
  keeps_stmt (Tree.return n e) C = keeps_trans {B = Code.ret total n ∷ dead C} (keeps_expr lengths e _) (keeps_more _ (keeps_dead C))
  keeps_stmt (Tree.replace n m f l) C = keeps_trans {B = Code.tcall (count l) total f m ∷ dead C} (keeps_args lengths l _) (keeps_more _ (keeps_dead C))

pub keeps_zeros : (k : ℕ) (C : Code) → Keeps (zeros_code k C) C
unfolding zeros_code
keeps_zeros zero C = keeps_same C
keeps_zeros (suc k) C = keeps_trans {B = zeros_code k C} (keeps_cst (pos 0) no_place (view (zeros_code k C))) (keeps_zeros k C)

pub keeps_body : (lengths : List ℕ) (fn : Function) (C : Code) → Keeps (body_code lengths fn C) C
keeps_body lengths fn C =
    let t = fn.parameters + fn.locals in
    let R = Code.ret t no_place ∷ dead C in
    let E = add_cst (pos 0) no_place R in
    let B = stmt_code lengths t fn.body E in
    keeps_trans {B = B} (keeps_zeros fn.locals B)
    (keeps_trans {B = E} (keeps_stmt lengths t fn.body E) (keeps_trans {B = R} (keeps_cst (pos 0) no_place (view R)) (keeps_more _ (keeps_dead C))))

pub keeps_functions : (lengths : List ℕ) (f : ℕ) (fn : Function) (fns : List Function) → Keeps (functions_code lengths f (fn ∷ fns)) (functions_code lengths (suc f) fns)
unfolding functions_code
keeps_functions lengths f fn fns = keeps_more _ (keeps_body lengths fn (functions_code lengths (suc f) fns))
