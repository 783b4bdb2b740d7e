-- Each start of a while and each entry stands once in the code of a script, where the positions say.
use Rattle.std.proofs.Common.{◌≡◌, ℕ, zero, suc, ◌+◌, ◌<◌, ◌≤◌, Bool, true, false, cond, eqb, List, [], ◌∷◌, length, get_or, ℤ, pos, refl, ap, ◌∙◌, subst, arith, eq-eqb, ne_eqb, eqb-true}
use Rattle.answer.specs.Numbers.{no_place}
use Rattle.meaning.specs.Words.{is_zero, flag, eq_z, Operator}
use Rattle.meaning.specs.Words
use Rattle.meaning.specs.Meaning.{first_word}
use Rattle.meaning.specs.Tree.{Expr, Args, Stmt, Function, Script}
use Rattle.meaning.specs.Tree
use Rattle.scheme.specs.Code.{Code, Target, Item, size, View, view, Front, front, Jumps, jumps}
use Rattle.scheme.specs.Code
use Rattle.scheme.specs.Writing.{dead, write_goto, add_goto, not_before, cst_before, add_cst, labelled_of, target, labelled, left_by, jump_by, and_before, or_before, short_way}
use Rattle.scheme.specs.Scheme.{operator_code, element_code, count, expr_code, args_code, stmt_code, zeros_code, body_code, functions_code, script_code}
use Rattle.scheme.specs.Written.{sought, size_behind, none_of, loop_end, entry_end}
use Rattle.scheme.specs.Laws.{Suffix, same, more, plus, whiles, all_whiles, tally, Distinct}
use Rattle.scheme.proofs.Keep.{keeps_functions}
use Rattle.scheme.proofs.Scope.{suffix_size}

module _ (lengths : List ℕ) (is_loop is_entry : ℕ → Bool) where
  abbrev hit : Item → Bool
  hit = sought is_loop is_entry

  abbrev num : Code → ℕ
  num = tally is_loop is_entry

  abbrev loops_in : Stmt → ℕ
  loops_in = whiles is_loop

  n_dead : (C : Code) → num (dead C) ≡ num C
  unfolding dead
  n_dead [] = refl
  n_dead (Code.csti i m ∷ C) = n_dead C
  n_dead (Code.plain p m ∷ C) = n_dead C
  n_dead (Code.pop m ∷ C) = n_dead C
  n_dead (Code.goto t m ∷ C) = n_dead C
  n_dead (Code.ifzero t m ∷ C) = n_dead C
  n_dead (Code.ifnzro t m ∷ C) = n_dead C
  n_dead (Code.call m f n ∷ C) = n_dead C
  n_dead (Code.tcall m k f n ∷ C) = n_dead C
  n_dead (Code.ret k n ∷ C) = n_dead C
  n_dead (Code.ldargs ∷ C) = n_dead C
  n_dead (Code.stop ∷ C) = n_dead C
  n_dead (Code.label ∷ C) = refl
  n_dead (Code.loop_at w ∷ C) = refl
  n_dead (Code.entry f ∷ C) = refl

  n_if : (b : Bool) (A B : Code) (n : ℕ) → num A ≡ n → num B ≡ n → num (cond b (A) (B)) ≡ n
  n_if true A B n f g = f
  n_if false A B n f g = g

  n_goto : (t : Target) (m : ℕ) (C : Code) → num (add_goto t m C) ≡ num C
  unfolding write_goto
  n_goto (Code.behind n) m C = n_if (eqb n (size (dead C))) (dead C) (Code.goto (Code.behind n) m ∷ dead C) _ (n_dead C) (n_dead C)
  n_goto (Code.loop w) m C = n_dead C

  n_not : (n : ℕ) {C : Code} (v : View C) → num (not_before n v) ≡ num C
  unfolding not_before
  n_not n (Code.v_add m C) = refl
  n_not n (Code.v_sub m C) = refl
  n_not n (Code.v_div m C) = refl
  n_not n (Code.v_mul m C) = refl
  n_not n (Code.v_eq m v) = refl
  n_not n (Code.v_not m v) = refl
  n_not n (Code.v_pop m C) = refl
  n_not n (Code.v_ifzero t m C) = refl
  n_not n (Code.v_ifnzro t m C) = refl
  n_not n (Code.v_rest C) = refl

  n_cst : (i : ℤ) (n : ℕ) {C : Code} (v : View C) → num (cst_before i n v) ≡ num C
  unfolding cst_before
  n_cst i n (Code.v_add m C) = n_if (is_zero i) C (Code.csti i n ∷ Code.plain Code.add m ∷ C) _ refl refl
  n_cst i n (Code.v_sub m C) = n_if (is_zero i) C (Code.csti i n ∷ Code.plain Code.sub m ∷ C) _ refl refl
  n_cst i n (Code.v_div m C) = n_if (eq_z i (pos 1)) C (Code.csti i n ∷ Code.plain Code.div m ∷ C) _ refl refl
  n_cst i n (Code.v_mul m C) = n_if (eq_z i (pos 1)) C (Code.csti i n ∷ Code.plain Code.mul m ∷ C) _ refl refl
  n_cst i n (Code.v_eq m {C} v) = n_if (is_zero i) (not_before m v) (Code.csti i n ∷ Code.plain Code.eq m ∷ C) _ (n_not m v) refl
  n_cst i n (Code.v_not m v) = n_cst (flag (is_zero i)) n v
  n_cst i n (Code.v_pop m C) = refl
  n_cst i n (Code.v_ifzero t m C) = n_if (is_zero i) (add_goto t m C) C _ (n_goto t m C) refl
  n_cst i n (Code.v_ifnzro t m C) = n_if (is_zero i) C (add_goto t m C) _ refl (n_goto t m C)
  n_cst i n (Code.v_rest C) = refl

  n_labelled : {C : Code} (f : Front C) → num (labelled_of f) ≡ num C
  unfolding labelled_of
  n_labelled (Code.f_goto t m C) = refl
  n_labelled (Code.f_rest C) = refl

  n_left : (C : Code) (j : Jumps C) → num (left_by C j) ≡ num C
  unfolding left_by
  n_left C (Code.j_ret k r) = refl
  n_left C Code.j_goes = n_labelled (front C)

  n_jump : (C : Code) (j : Jumps C) (m : ℕ) (D : Code) → num (jump_by C j m D) ≡ num D
  unfolding jump_by
  n_jump C (Code.j_ret k r) m D = n_dead D
  n_jump C Code.j_goes m D = n_goto (target C) m D

  n_short : (i : ℤ) (n : ℕ) (C : Code) → num (short_way i n C).rest ≡ num C
  n_short i n C =
      let L = left_by C (jumps C) in
      let D = add_cst i n L in
      n_jump C (jumps C) n (labelled D) ∙ (n_labelled (front D) ∙ (n_cst i n (view L) ∙ n_left C (jumps C)))

  n_and : (n : ℕ) {C : Code} (v : View C) → num (and_before n v).rest ≡ num C
  unfolding and_before
  n_and n (Code.v_add m C) = n_short (pos 0) n _
  n_and n (Code.v_sub m C) = n_short (pos 0) n _
  n_and n (Code.v_div m C) = n_short (pos 0) n _
  n_and n (Code.v_mul m C) = n_short (pos 0) n _
  n_and n (Code.v_eq m v) = n_short (pos 0) n _
  n_and n (Code.v_not m v) = n_short (pos 0) n _
  n_and n (Code.v_pop m C) = n_short (pos 0) n _
  n_and n (Code.v_ifzero t m C) = refl
  n_and n (Code.v_ifnzro t m C) = n_labelled (front C)
  n_and n (Code.v_rest C) = n_short (pos 0) n C

  n_or : (n : ℕ) {C : Code} (v : View C) → num (or_before n v).rest ≡ num C
  unfolding or_before
  n_or n (Code.v_add m C) = n_short (pos 1) n _
  n_or n (Code.v_sub m C) = n_short (pos 1) n _
  n_or n (Code.v_div m C) = n_short (pos 1) n _
  n_or n (Code.v_mul m C) = n_short (pos 1) n _
  n_or n (Code.v_eq m v) = n_short (pos 1) n _
  n_or n (Code.v_not m v) = n_short (pos 1) n _
  n_or n (Code.v_pop m C) = n_short (pos 1) n _
  n_or n (Code.v_ifnzro t m C) = refl
  n_or n (Code.v_ifzero t m C) = n_labelled (front C)
  n_or n (Code.v_rest C) = n_short (pos 1) n C

  n_operator : (o : Operator) (n : ℕ) (C : Code) → num (operator_code o n C) ≡ num C
  n_operator Words.add n C = refl
  n_operator Words.sub n C = refl
  n_operator Words.mul n C = refl
  n_operator Words.div n C = refl
  n_operator Words.rem n C = refl
  n_operator Words.eq n C = refl
  n_operator Words.lt n C = refl
  n_operator Words.gt n C = refl
  n_operator Words.ne n C = n_not n (view C)
  n_operator Words.ge n C = n_not n (view C)
  n_operator Words.le n C = n_not n (view C)

  n_element : (n len w : ℕ) (C : Code) → num (element_code n len w C) ≡ num C
  n_element n len w C = n_cst (pos w) n (view (Code.plain Code.add n ∷ C))

  mutual
    unfolding expr_code args_code

    n_expr : (e : Expr) (C : Code) → num (expr_code lengths e C) ≡ num C
    n_expr (Tree.constant n i) C = n_cst i n (view C)
    n_expr (Tree.local n k) C = n_cst (pos k) n (view _)
    n_expr (Tree.set_local n k e) C = n_cst (pos k) n (view _) ∙ n_expr e _
    n_expr (Tree.negation n e) C = n_expr e _ ∙ n_not n (view C)
    n_expr (Tree.binary n o e f) C = n_expr e _ ∙ (n_expr f _ ∙ n_operator o n C)
    n_expr (Tree.global n g) C = n_cst _ n (view _)
    n_expr (Tree.element n g e) C = n_expr e _ ∙ n_element n (get_or lengths g 0) (first_word lengths g) _
    n_expr (Tree.set_global n g e) C = n_cst _ n (view _) ∙ n_expr e _
    n_expr (Tree.set_element n g e f) C = n_expr e _ ∙ (n_element n (get_or lengths g 0) (first_word lengths g) _ ∙ n_expr f _)
    n_expr (Tree.print n e) C = n_expr e _
    n_expr (Tree.either n e f) C = n_expr e _ ∙ (n_expr f _ ∙ n_or n (view C))
    n_expr (Tree.both n e f) C = n_expr e _ ∙ (n_expr f _ ∙ n_and n (view C))
    n_expr (Tree.call n f a) C = n_args a _

    n_args : (a : Args) (C : Code) → num (args_code lengths a C) ≡ num C
    n_args (Tree.none n) C = refl
    n_args (Tree.also n e a) C = n_expr e _ ∙ n_args a C

  plus_add : (b : Bool) (m n : ℕ) → plus b (m + n) ≡ plus b m + n
  plus_add true m n = omega arith
  plus_add false m n = refl

  n_stmt : (total : ℕ) (s : Stmt) (C : Code) → num (stmt_code lengths total s C) ≡ loops_in s + num C
  unfolding stmt_code
  n_stmt total (Tree.nothing n) C = omega arith
  n_stmt total (Tree.chain n a b) C = let x = n_stmt total a (stmt_code lengths total b C) in let y = n_stmt total b C in omega arith
  n_stmt total (Tree.discard n e) C = let x = n_expr e (Code.pop n ∷ C) in omega arith
  n_stmt total (Tree.if n e a b) C =
      let L = left_by C (jumps C) in
      let D = stmt_code lengths total b L in
      let J = jump_by C (jumps C) n (labelled D) in
      let x = n_expr e (Code.ifzero (target D) n ∷ stmt_code lengths total a J) in
      let y = n_stmt total a J in
      let z = n_jump C (jumps C) n (labelled D) in
      let u = n_labelled (front D) in
      let v = n_stmt total b L in
      let w = n_left C (jumps C) in
      omega arith
  n_stmt total (Tree.while n e b) C =
      let G = add_goto (Code.loop n) n (labelled C) in
      let x = n_expr e (Code.ifzero (target C) n ∷ stmt_code lengths total b G) in
      let y = n_stmt total b G in
      let z = n_goto (Code.loop n) n (labelled C) in
      let u = n_labelled (front C) in
      ap (plus (is_loop n)) (let q : num (expr_code lengths e (Code.ifzero (target C) n ∷ stmt_code lengths total b G)) ≡ loops_in b + num C = omega arith in q) ∙ plus_add (is_loop n) (loops_in b) (num C)
  n_stmt total (Tree.return n e) C = let x = n_expr e (Code.ret total n ∷ dead C) in let y = n_dead C in omega arith
  n_stmt total (Tree.replace n m f l) C = let x = n_args l (Code.tcall (count l) total f m ∷ dead C) in let y = n_dead C in omega arith

  n_zeros : (j : ℕ) (C : Code) → num (zeros_code j C) ≡ num C
  unfolding zeros_code
  n_zeros zero C = refl
  n_zeros (suc j) C = n_cst (pos 0) no_place (view (zeros_code j C)) ∙ n_zeros j C

  pub n_body : (fn : Function) (C : Code) → num (body_code lengths fn C) ≡ loops_in fn.body + num C
  n_body fn C =
      let t = fn.parameters + fn.locals in
      let E = add_cst (pos 0) no_place (Code.ret t no_place ∷ dead C) in
      let x = n_zeros fn.locals (stmt_code lengths t fn.body E) in
      let y = n_stmt t fn.body E in
      let z = n_cst (pos 0) no_place (view (Code.ret t no_place ∷ dead C)) in
      let u = n_dead C in
      omega arith

  some : (i : Item) (D Q : Code) → hit i ≡ true → Suffix (i ∷ D) Q → 1 ≤ num Q
  some i D Q e same = rw e (omega arith)
  some i D (j ∷ Q) e (more s) = go (hit j) (some i D Q e s)
    where
      go : (b : Bool) → 1 ≤ num Q → 1 ≤ plus b (num Q)
      go true a = omega arith
      go false a = a

  pub unique : (i : Item) (D Q : Code) → hit i ≡ true → num Q ≤ 1 → Suffix (i ∷ D) Q → size_behind is_loop is_entry Q ≡ size D
  unique i D Q e le same = rw (e, size_behind)
  unique i D (j ∷ Q) e le (more s) = go (hit j) le (some i D Q e s) (λ h. unique i D Q e h s)
    where
      go : (b : Bool) → plus b (num Q) ≤ 1 → 1 ≤ num Q → (num Q ≤ 1 → size_behind is_loop is_entry Q ≡ size D) → cond b (size Q) (size_behind is_loop is_entry Q) ≡ size D
      go true h p r = absurd (omega arith)
      go false h p r = r h

  -- the first label of those looked for has the longest code behind it
  pub first_behind : (i : Item) (D Q : Code) → hit i ≡ true → Suffix (i ∷ D) Q → size D ≤ size_behind is_loop is_entry Q
  first_behind i D Q e same = go (hit i) e
    where
      go : (b : Bool) → b ≡ true → size D ≤ cond b (size D) (size_behind is_loop is_entry D)
      go true h = omega arith
      go false h = absurd (let z : ◌≡◌ {A = ℕ} 0 1 = cc in omega arith)
  first_behind i D (j ∷ Q) e (more s) = go (hit j) (first_behind i D Q e s)
    where
      go : (b : Bool) → size D ≤ size_behind is_loop is_entry Q → size D ≤ cond b (size Q) (size_behind is_loop is_entry Q)
      go true h = let a = suffix_size s in omega arith
      go false h = h

loops_tally : (ls : List ℕ) (w f : ℕ) (fns : List Function) → tally (eqb w) none_of (functions_code ls f fns) ≡ all_whiles (eqb w) fns
unfolding functions_code
loops_tally ls w f [] = refl
loops_tally ls w f (fn ∷ fns) = let a = n_body ls (eqb w) none_of fn (functions_code ls (suc f) fns) in let b = loops_tally ls w (suc f) fns in omega arith

no_while : (s : Stmt) → whiles none_of s ≡ 0
no_while (Tree.nothing n) = refl
no_while (Tree.chain n a b) = let x = no_while a in let y = no_while b in omega arith
no_while (Tree.discard n e) = refl
no_while (Tree.if n e a b) = let x = no_while a in let y = no_while b in omega arith
no_while (Tree.while n e b) = no_while b
no_while (Tree.return n e) = refl
no_while (Tree.replace n m f l) = refl

entries_none : (ls : List ℕ) (f g : ℕ) (fns : List Function) → f < g → tally none_of (eqb f) (functions_code ls g fns) ≡ 0
unfolding functions_code
entries_none ls f g [] h = refl
entries_none ls f g (fn ∷ fns) h =
    let a = n_body ls none_of (eqb f) fn (functions_code ls (suc g) fns) in
    let b = entries_none ls f (suc g) fns (omega arith) in
    let c = no_while fn.body in
    rw (ne_eqb f g (λ e. omega arith)) (omega arith)

entries_tally : (ls : List ℕ) (f g : ℕ) (fns : List Function) → tally none_of (eqb f) (functions_code ls g fns) ≤ 1
unfolding functions_code
entries_tally ls f g [] = omega arith
entries_tally ls f g (fn ∷ fns) = go (eqb f g) refl (entries_tally ls f (suc g) fns)
  where
    go : (b : Bool) → eqb f g ≡ b → tally none_of (eqb f) (functions_code ls (suc g) fns) ≤ 1
        → plus b (tally none_of (eqb f) (body_code ls fn (functions_code ls (suc g) fns))) ≤ 1
    go true e r =
        let z = eqb-true f g e in
        let a = n_body ls none_of (eqb f) fn (functions_code ls (suc g) fns) in
        let b = entries_none ls f (suc g) fns (omega arith) in
        let c = no_while fn.body in
        omega arith
    go false e r = let a = n_body ls none_of (eqb f) fn (functions_code ls (suc g) fns) in let c = no_while fn.body in omega arith

pub loop_found : (s : Script) → Distinct s.functions → (w : ℕ) (D : Code) → Suffix (Code.loop_at w ∷ D) (script_code s) → loop_end (script_code s) w ≡ size D
unfolding script_code
loop_found s distinct w D at =
    let a = loops_tally s.lengths w 0 s.functions in
    let b = distinct w in
    unique [] (eqb w) none_of (Code.loop_at w) D (script_code s) (eq-eqb w w refl) (omega arith) at

pub entry_found : (s : Script) (f : ℕ) (D : Code) → Suffix (Code.entry f ∷ D) (script_code s) → entry_end (script_code s) f ≡ size D
unfolding script_code
entry_found s f D at = unique [] none_of (eqb f) (Code.entry f) D (script_code s) (eq-eqb f f refl) (entries_tally s.lengths f 0 s.functions) at

pub loop-first : (P : Code) (w : ℕ) (D : Code) → Suffix (Code.loop_at w ∷ D) P → size D ≤ loop_end P w
loop-first P w D at = first_behind [] (eqb w) none_of (Code.loop_at w) D P (eq-eqb w w refl) at

enters : (ls : List ℕ) (k f : ℕ) (fns : List Function) → k < length fns → (g : ℕ) → g ≡ k + f → (D : Code) × Suffix (Code.entry g ∷ D) (functions_code ls f fns)
unfolding functions_code
enters ls k f [] lt g e = absurd (omega arith)
enters ls zero f (fn ∷ fns) lt g e =
    let z : f ≡ g = omega arith in
    subst (λ (x : ℕ). (D : Code) × Suffix (Code.entry x ∷ D) (functions_code ls f (fn ∷ fns))) z (body_code ls fn (functions_code ls (suc f) fns), same)
enters ls (suc k) f (fn ∷ fns) lt g e =
    let r = enters ls k (suc f) fns (omega arith) g (omega arith) in
    (r.0, keeps_functions ls f fn fns (Code.entry g ∷ r.0) refl r.1)

pub entry_stands : (s : Script) (f : ℕ) → f < length s.functions → (D : Code) × Suffix (Code.entry f ∷ D) (script_code s)
unfolding script_code
entry_stands s f lt = let r = enters s.lengths f 0 s.functions lt f (omega arith) in (r.0, more (more (more r.1)))
