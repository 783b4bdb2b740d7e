-- What is written before code moves no loop and no entry: only the label of a loop and of an entry sets one.
use Rattle.std.proofs.Common.{◌≡◌, ℕ, zero, suc, Bool, true, false, cond, eqb, List, [], ◌∷◌, get_or, ℤ, pos, refl, ◌∙◌}
use Rattle.answer.specs.Numbers.{no_place}
use Rattle.meaning.specs.Words.{flag, is_zero, eq_z}
use Rattle.meaning.specs.Words as Word
use Rattle.meaning.specs.Tree.{Expr, Args, Stmt}
use Rattle.meaning.specs.Tree
use Rattle.meaning.specs.Meaning.{first_word}
use Rattle.scheme.specs.Code as S
use Rattle.scheme.specs.Writing as W
use Rattle.scheme.specs.Scheme.{operator_code, element_code, count, expr_code, args_code, stmt_code, zeros_code}
use Rattle.scheme.specs.Written.{size_behind, none_of}

module _ (is_loop is_entry : ℕ → Bool) where
  abbrev end : S.Code → ℕ
  end C = size_behind is_loop is_entry C

  pub ends_dead : (C : S.Code) → end (W.dead C) ≡ end C
  unfolding W.dead
  ends_dead [] = refl
  ends_dead (S.csti v m ∷ C) = ends_dead C
  ends_dead (S.plain p m ∷ C) = ends_dead C
  ends_dead (S.pop m ∷ C) = ends_dead C
  ends_dead (S.goto t m ∷ C) = ends_dead C
  ends_dead (S.ifzero t m ∷ C) = ends_dead C
  ends_dead (S.ifnzro t m ∷ C) = ends_dead C
  ends_dead (S.call k f m ∷ C) = ends_dead C
  ends_dead (S.tcall k l f m ∷ C) = ends_dead C
  ends_dead (S.ret k m ∷ C) = ends_dead C
  ends_dead (S.ldargs ∷ C) = ends_dead C
  ends_dead (S.stop ∷ C) = ends_dead C
  ends_dead (S.label ∷ C) = refl
  ends_dead (S.loop_at w ∷ C) = refl
  ends_dead (S.entry f ∷ C) = refl

  ends-if : (b : Bool) (A B : S.Code) (n : ℕ) → end A ≡ n → end B ≡ n → end (cond b A B) ≡ n
  ends-if true A B n p q = p
  ends-if false A B n p q = q

  ends_write : (t : S.Target) (m : ℕ) (C : S.Code) → end (W.write_goto t m C) ≡ end C
  unfolding W.write_goto
  ends_write (S.behind n) m C = ends-if (eqb n (S.size C)) C (S.goto (S.behind n) m ∷ C) (end C) refl refl
  ends_write (S.loop w) m C = refl

  pub ends_goto : (t : S.Target) (m : ℕ) (C : S.Code) → end (W.add_goto t m C) ≡ end C
  ends_goto t m C = ends_write t m (W.dead C) ∙ ends_dead C

  ends_not_by : (n : ℕ) {C : S.Code} (v : S.View C) → end (W.not_before n v) ≡ end C
  unfolding W.not_before
  ends_not_by n (S.v_add k D) = refl
  ends_not_by n (S.v_sub k D) = refl
  ends_not_by n (S.v_mul k D) = refl
  ends_not_by n (S.v_div k D) = refl
  ends_not_by n (S.v_eq k {C} w) = refl
  ends_not_by n (S.v_not k {C} w) = refl
  ends_not_by n (S.v_pop k D) = refl
  ends_not_by n (S.v_ifzero t k D) = refl
  ends_not_by n (S.v_ifnzro t k D) = refl
  ends_not_by n (S.v_rest D) = refl

  pub ends_not : (n : ℕ) (C : S.Code) → end (W.add_not n C) ≡ end C
  ends_not n C = ends_not_by n (S.view C)

  ends_cst_by : (i : ℤ) (n : ℕ) {C : S.Code} (v : S.View C) → end (W.cst_before i n v) ≡ end C
  unfolding W.cst_before
  ends_cst_by i n (S.v_add k D) = ends-if (is_zero i) D (S.csti i n ∷ S.plain S.add k ∷ D) (end D) refl refl
  ends_cst_by i n (S.v_sub k D) = ends-if (is_zero i) D (S.csti i n ∷ S.plain S.sub k ∷ D) (end D) refl refl
  ends_cst_by i n (S.v_mul k D) = ends-if (eq_z i (pos 1)) D (S.csti i n ∷ S.plain S.mul k ∷ D) (end D) refl refl
  ends_cst_by i n (S.v_div k D) = ends-if (eq_z i (pos 1)) D (S.csti i n ∷ S.plain S.div k ∷ D) (end D) refl refl
  ends_cst_by i n (S.v_eq k {C} w) = ends-if (is_zero i) (W.not_before k w) (S.csti i n ∷ S.plain S.eq k ∷ C) (end C) (ends_not_by k w) refl
  ends_cst_by i n (S.v_not k {C} w) = ends_cst_by (flag (is_zero i)) n w
  ends_cst_by i n (S.v_pop k D) = refl
  ends_cst_by i n (S.v_ifzero t k D) = ends-if (is_zero i) (W.add_goto t k D) D (end D) (ends_goto t k D) refl
  ends_cst_by i n (S.v_ifnzro t k D) = ends-if (is_zero i) D (W.add_goto t k D) (end D) refl (ends_goto t k D)
  ends_cst_by i n (S.v_rest D) = refl

  pub ends_cst : (i : ℤ) (n : ℕ) (C : S.Code) → end (W.add_cst i n C) ≡ end C
  ends_cst i n C = ends_cst_by i n (S.view C)

  ends_labelled_by : {C : S.Code} (f : S.Front C) → end (W.labelled_of f) ≡ end C
  unfolding W.labelled_of
  ends_labelled_by (S.f_goto t m C) = refl
  ends_labelled_by (S.f_rest C) = refl

  pub ends_labelled : (C : S.Code) → end (W.labelled C) ≡ end C
  ends_labelled C = ends_labelled_by (S.front C)

  ends_left_by : (C : S.Code) (j : S.Jumps C) → end (W.left_by C j) ≡ end C
  unfolding W.left_by
  ends_left_by C (S.j_ret k r) = refl
  ends_left_by C S.j_goes = ends_labelled C

  pub ends_left : (C : S.Code) → end (W.left_jump C) ≡ end C
  ends_left C = ends_left_by C (S.jumps C)

  ends_jump_by : (C : S.Code) (j : S.Jumps C) (m : ℕ) (K : S.Code) → end (W.jump_by C j m K) ≡ end K
  unfolding W.jump_by
  ends_jump_by C (S.j_ret k r) m K = ends_dead K
  ends_jump_by C S.j_goes m K = ends_goto (W.target C) m K

  pub ends_jump : (C : S.Code) (m : ℕ) (K : S.Code) → end (W.add_jump C m K) ≡ end K
  ends_jump C m K = ends_jump_by C (S.jumps C) m K

  ends-operator : (o : Word.Operator) (n : ℕ) (C : S.Code) → end (operator_code o n C) ≡ end C
  ends-operator Word.add n C = refl
  ends-operator Word.sub n C = refl
  ends-operator Word.mul n C = refl
  ends-operator Word.div n C = refl
  ends-operator Word.rem n C = refl
  ends-operator Word.eq n C = refl
  ends-operator Word.ne n C = ends_not n C
  ends-operator Word.lt n C = refl
  ends-operator Word.ge n C = ends_not n C
  ends-operator Word.gt n C = refl
  ends-operator Word.le n C = ends_not n C

  ends_short : (i : ℤ) (n : ℕ) (C : S.Code) → end (W.short_way i n C).rest ≡ end C
  ends_short i n C = let K : S.Code = W.add_cst i n (W.left_jump C) in ends_jump C n (W.labelled K) ∙ ends_labelled K ∙ ends_cst i n (W.left_jump C) ∙ ends_left C

  ends_and : (n : ℕ) {C : S.Code} (v : S.View C) → end (W.and_before n v).rest ≡ end C
  unfolding W.and_before
  ends_and n (S.v_add k D) = ends_short (pos 0) n (S.plain S.add k ∷ D)
  ends_and n (S.v_sub k D) = ends_short (pos 0) n (S.plain S.sub k ∷ D)
  ends_and n (S.v_mul k D) = ends_short (pos 0) n (S.plain S.mul k ∷ D)
  ends_and n (S.v_div k D) = ends_short (pos 0) n (S.plain S.div k ∷ D)
  ends_and n (S.v_eq k {C} w) = ends_short (pos 0) n (S.plain S.eq k ∷ C)
  ends_and n (S.v_not k {C} w) = ends_short (pos 0) n (S.plain S.not k ∷ C)
  ends_and n (S.v_pop k D) = ends_short (pos 0) n (S.pop k ∷ D)
  ends_and n (S.v_ifzero t k D) = refl
  ends_and n (S.v_ifnzro t k D) = ends_labelled D
  ends_and n (S.v_rest D) = ends_short (pos 0) n D

  ends_or : (n : ℕ) {C : S.Code} (v : S.View C) → end (W.or_before n v).rest ≡ end C
  unfolding W.or_before
  ends_or n (S.v_add k D) = ends_short (pos 1) n (S.plain S.add k ∷ D)
  ends_or n (S.v_sub k D) = ends_short (pos 1) n (S.plain S.sub k ∷ D)
  ends_or n (S.v_mul k D) = ends_short (pos 1) n (S.plain S.mul k ∷ D)
  ends_or n (S.v_div k D) = ends_short (pos 1) n (S.plain S.div k ∷ D)
  ends_or n (S.v_eq k {C} w) = ends_short (pos 1) n (S.plain S.eq k ∷ C)
  ends_or n (S.v_not k {C} w) = ends_short (pos 1) n (S.plain S.not k ∷ C)
  ends_or n (S.v_pop k D) = ends_short (pos 1) n (S.pop k ∷ D)
  ends_or n (S.v_ifzero t k D) = ends_labelled D
  ends_or n (S.v_ifnzro t k D) = refl
  ends_or n (S.v_rest D) = ends_short (pos 1) n D

  ends-element : (n len w : ℕ) (C : S.Code) → end (element_code n len w C) ≡ end C
  ends-element n len w C = ends_cst (pos w) n (S.plain S.add n ∷ C)

  module _ (ls : List ℕ) where
    mutual
      unfolding expr_code args_code

      pub ends_expr : (e : Expr) (C : S.Code) → end (expr_code ls e C) ≡ end C
      ends_expr (Tree.constant n i) C = ends_cst i n C
      ends_expr (Tree.local n k) C = ends_cst (pos k) n (S.plain S.add n ∷ S.plain S.ldi n ∷ C)
      ends_expr (Tree.global n g) C = ends_cst (pos (first_word ls g)) n (S.plain S.ldi n ∷ C)
      ends_expr (Tree.element n g e) C = ends_expr e _ ∙ ends-element n (get_or ls g 0) (first_word ls g) (S.plain S.ldi n ∷ C)
      ends_expr (Tree.set_local n k e) C = ends_cst (pos k) n _ ∙ ends_expr e (S.plain S.sti n ∷ C)
      ends_expr (Tree.set_global n g e) C = ends_cst (pos (first_word ls g)) n _ ∙ ends_expr e (S.plain S.sti n ∷ C)
      ends_expr (Tree.set_element n g e f) C = ends_expr e _ ∙ ends-element n (get_or ls g 0) (first_word ls g) _ ∙ ends_expr f (S.plain S.sti n ∷ C)
      ends_expr (Tree.negation n e) C = ends_expr e _ ∙ ends_not n C
      ends_expr (Tree.print n e) C = ends_expr e (S.plain S.printi n ∷ C)
      ends_expr (Tree.binary n o e f) C = ends_expr e _ ∙ ends_expr f _ ∙ ends-operator o n C
      ends_expr (Tree.both n e f) C = ends_expr e _ ∙ ends_expr f _ ∙ ends_and n (S.view C)
      ends_expr (Tree.either n e f) C = ends_expr e _ ∙ ends_expr f _ ∙ ends_or n (S.view C)
      ends_expr (Tree.call n f a) C = ends_args a (S.call (count a) f n ∷ C)

      pub ends_args : (a : Args) (C : S.Code) → end (args_code ls a C) ≡ end C
      ends_args (Tree.none n) C = refl
      ends_args (Tree.also n e a) C = ends_expr e (args_code ls a C) ∙ ends_args a C

-- a statement moves no entry
module _ (is_entry : ℕ → Bool) (ls : List ℕ) (total : ℕ) where
  pub ends_stmt : (s : Stmt) (C : S.Code) → size_behind none_of is_entry (stmt_code ls total s C) ≡ size_behind none_of is_entry C
  unfolding stmt_code
  ends_stmt (Tree.nothing n) C = refl
  ends_stmt (Tree.chain n a b) C = ends_stmt a (stmt_code ls total b C) ∙ ends_stmt b C
  ends_stmt (Tree.discard n e) C = ends_expr none_of is_entry ls e (S.pop n ∷ C)
  ends_stmt (Tree.if n e a b) C =
      let M : S.Code = stmt_code ls total b (W.left_jump C) in
      let J : S.Code = W.add_jump C n (W.labelled M) in
      ends_expr none_of is_entry ls e (S.ifzero (W.target M) n ∷ stmt_code ls total a J) ∙ ends_stmt a J ∙ ends_jump none_of is_entry C n (W.labelled M) ∙ ends_labelled none_of is_entry M ∙ ends_stmt b (W.left_jump C) ∙ ends_left none_of is_entry C
  ends_stmt (Tree.while n e b) C =
      let G : S.Code = W.add_goto (S.loop n) n (W.labelled C) in
      ends_expr none_of is_entry ls e (S.ifzero (W.target C) n ∷ stmt_code ls total b G) ∙ ends_stmt b G ∙ ends_goto none_of is_entry (S.loop n) n (W.labelled C) ∙ ends_labelled none_of is_entry C
  ends_stmt (Tree.return n e) C = ends_expr none_of is_entry ls e (S.ret total n ∷ W.dead C) ∙ ends_dead none_of is_entry C
  ends_stmt (Tree.replace n m f l) C = ends_args none_of is_entry ls l (S.tcall (count l) total f m ∷ W.dead C) ∙ ends_dead none_of is_entry C

pub ends_zeros : (is_loop is_entry : ℕ → Bool) (k : ℕ) (C : S.Code) → size_behind is_loop is_entry (zeros_code k C) ≡ size_behind is_loop is_entry C
unfolding zeros_code
ends_zeros is_loop is_entry zero C = refl
ends_zeros is_loop is_entry (suc k) C = ends_cst is_loop is_entry (pos 0) no_place (zeros_code k C) ∙ ends_zeros is_loop is_entry k C
