-- Expressions: what their code does is what they mean.
use Rattle.std.proofs.Common.{◌≡◌, ℕ, suc, pred, ◌+◌, ◌≤◌, true, false, List, ◌∷◌, ◌++◌, length, get_or, ℤ, pos, nat_abs, sym, refl, ap, subst, arith}
use Rattle.meaning.specs.Words.{is_zero}
use Rattle.meaning.specs.Tree.{Expr, Args}
use Rattle.meaning.specs.Tree
use Rattle.meaning.specs.Steps.{State, Out, Enter}
use Rattle.meaning.specs.Meaning.{eval, evals, first_word}
use Rattle.scheme.specs.Code.{Code, view}
use Rattle.scheme.specs.Code
use Rattle.scheme.specs.Writing.{add_not, and_way, or_way}
use Rattle.scheme.specs.Scheme.{operator_code, element_code, expr_code, args_code, count}
use Rattle.symbolic.specs.Symbolic.{Finish, onto}
use Rattle.symbolic.specs.Proper.{Fit, OkE, OkA}
use Rattle.scheme.proofs.Keep.{keeps_trans, keeps_cst, keeps_element}
use Rattle.simulation.proofs.Machine.{Machine, Run, Hosts, hosts_tail, hosts_local, hosts_expr}
use Rattle.simulation.proofs.Words.{fits-flag}
use Rattle.simulation.proofs.Stack.{fit_get_d}
use Rattle.simulation.proofs.Laws.{cst_law, not_law, ifzero_law, ifnzro_law}
use Rattle.simulation.proofs.Ways.{and_short, and_rest, or_short, or_rest}
use Rattle.simulation.proofs.Frames.{After, after_then, after_map, Place, Good, frame, at, At, Valued, CallRuns, room}
use Rattle.simulation.proofs.Operators.{operator_law, print_law}
use Rattle.simulation.proofs.Addresses.{address, load_local, keep_local, load_global, keep_global, local_good, global_good, within_lt, element_law}

module _ (p : Place) (lengths : List ℕ) (enter : Enter) (Known : ℕ → ℕ → Type 0) (call_runs : CallRuns p enter Known) where
  abbrev μ : Machine
  μ = p.machine

  abbrev Here : Code → List ℤ → State → Finish → Type 0
  Here = At p

  abbrev value : Expr → State → Out ℤ
  value = eval lengths μ.board enter

  abbrev values : Args → State → Out (List ℤ)
  values = evals lengths μ.board enter

  mutual
    unfolding eval evals expr_code args_code

    pub expr_runs : (e : Expr) (r : ℕ) (C : Code) (T : List ℤ) (t : ℕ) (s : State) (o : Finish)
        → OkE lengths p.locals p.globals Known e r → length T + r ≤ p.spare → Hosts μ (expr_code lengths e C) → Good p t s
        → After (value e s) (Valued p t C T o) o → Here (expr_code lengths e C) T s o
    expr_runs (Tree.constant n i) r C T t s o ok rm hosted g h =
        let q = room p T s t r g rm in
        cst_law μ i n (view C) (T ++ frame p s) (let w : 1 ≤ r = ok.1 in omega arith) hosted (h g ok.0)
    expr_runs (Tree.local n k) r C T t s o ok rm hosted g h =
        address p n k (Code.plain Code.ldi n ∷ C) T s t o ok.0 (let w : 2 ≤ r = ok.1 in omega arith) g hosted
        (load_local p n k C T s t o ok.0 g (h g (fit_get_d s.locals k g.fit)))
    expr_runs (Tree.global n k) r C T t s o ok rm hosted g h =
        let q = room p T s t r g rm in
        cst_law μ _ n (view _) (T ++ frame p s) (let w : 1 ≤ r = ok.1 in omega arith) hosted
        (load_global p n (first_word lengths k) C T s t o ok.0 g (h g (fit_get_d s.globals (first_word lengths k) g.gfit)))
    expr_runs (Tree.set_global n k e) r C T t s o ok rm hosted g h =
        let w : 1 ≤ r = ok.1 in
        let q = room p T s t r g rm in
        cst_law μ _ n (view _) (T ++ frame p s) (omega arith) hosted
        (expr_runs e (pred r) (Code.plain Code.sti n ∷ C) (pos (first_word lengths k) ∷ T) t s o ok.2 (omega arith)
        (keeps_trans {B = expr_code lengths (Tree.set_global n k e) C} hosted (keeps_cst _ n (view _))) g
        (after_then (value e s) _ _ _ o (λ v s₁ h₁ g₁ fv. keep_global p n (first_word lengths k) C T s₁ t v o ok.0 g₁ (h₁ (global_good p t _ s₁ v fv g₁) fv)) h))
    expr_runs (Tree.print n e) r C T t s o ok rm hosted g h =
        expr_runs e r (Code.plain Code.printi n ∷ C) T t s o ok rm hosted g
        (after_then (value e s) _ _ _ o (λ v s₁ h₁ g₁ fv. print_law p n v C T s₁ t o fv g₁ h₁) h)
    expr_runs (Tree.element n k e) r C T t s o ok rm hosted g h =
        let w₁ : first_word lengths k + get_or lengths k 0 ≤ p.globals = ok.0 in
        let w₂ : 3 ≤ r = ok.1 in
        let E = element_code n (get_or lengths k 0) (first_word lengths k) (Code.plain Code.ldi n ∷ C) in
        expr_runs e r E T t s o ok.2 rm hosted g
        (after_then (value e s) _ _ _ o (λ x s₁ h₁ g₁ fx.
        element_law p n (get_or lengths k 0) (first_word lengths k) x (Code.plain Code.ldi n ∷ C) T s₁ t o ok.0 (omega arith) g₁ (hosts_expr μ lengths e E hosted)
        (λ z. rw z at h₁)
        (λ z. let lt = within_lt _ x z in load_global p n (first_word lengths k + nat_abs x) C T s₁ t o (omega arith) g₁ ((rw z at h₁) g₁ (fit_get_d s₁.globals _ g₁.gfit)))) h)
    expr_runs (Tree.set_element n k e f) r C T t s o ok rm hosted g h =
        let w₁ : first_word lengths k + get_or lengths k 0 ≤ p.globals = ok.0 in
        let w₂ : 3 ≤ r = ok.1 in
        let F = expr_code lengths f (Code.plain Code.sti n ∷ C) in
        let E = element_code n (get_or lengths k 0) (first_word lengths k) F in
        let k₁ : Hosts μ E = hosts_expr μ lengths e E hosted in
        expr_runs e r E T t s o ok.2 rm hosted g
        (after_then (value e s) _ _ _ o (λ x s₁ h₁ g₁ fx.
        element_law p n (get_or lengths k 0) (first_word lengths k) x F T s₁ t o ok.0 (omega arith) g₁ k₁
        (λ z. rw z at h₁)
        (λ z. let lt = within_lt _ x z in
        expr_runs f (pred r) (Code.plain Code.sti n ∷ C) (pos (first_word lengths k + nat_abs x) ∷ T) t s₁ o ok.3 (omega arith) (keeps_trans {B = E} k₁ (keeps_element n _ _ F)) g₁
        (after_then (value f s₁) _ _ _ o (λ v s₂ h₂ g₂ fv. keep_global p n (first_word lengths k + nat_abs x) C T s₂ t v o (omega arith) g₂ (h₂ (global_good p t _ s₂ v fv g₂) fv)) (rw z at h₁)))) h)
    expr_runs (Tree.either n e f) r C T t s o ok rm hosted g h =
        let w : 1 ≤ r = ok.2 in
        let t₁ = (or_way n C).to in
        let m₁ = (or_way n C).mark in
        let C₁ = (or_way n C).rest in
        let h₂ : Hosts μ (expr_code lengths f C₁) = hosts_tail μ (Code.ifnzro t₁ m₁) (expr_code lengths f C₁) (hosts_expr μ lengths e (Code.ifnzro t₁ m₁ ∷ expr_code lengths f C₁) hosted) in
        let h₃ : Hosts μ C₁ = hosts_expr μ lengths f C₁ h₂ in
        expr_runs e r (Code.ifnzro t₁ m₁ ∷ expr_code lengths f C₁) T t s o ok.0 rm hosted g
        (after_then (value e s) _ _ _ o (λ x s₁ h₁ g₁ fx.
        let q = room p T s₁ t r g₁ rm in
        ifnzro_law μ t₁ m₁ (expr_code lengths f C₁) x (T ++ frame p s₁) (at p s₁) o
        (λ z. or_short μ n (view C) (T ++ frame p s₁) (omega arith) h₃ ((rw z at h₁) g₁ (fits-flag true)))
        (λ z. expr_runs f r C₁ T t s₁ o ok.1 rm h₂ g₁
        (after_map (value f s₁) _ _ o (λ v s₂ u g₂ fv. or_rest μ n (view C) (v ∷ (T ++ frame p s₂)) h₃ (u g₂ fv)) (rw z at h₁)))) h)
    expr_runs (Tree.set_local n k e) r C T t s o ok rm hosted g h =
        let w : 2 ≤ r = ok.1 in
        address p n k (expr_code lengths e (Code.plain Code.sti n ∷ C)) T s t o ok.0 (omega arith) g hosted
        (expr_runs e (pred r) (Code.plain Code.sti n ∷ C) (pos (p.base + k) ∷ T) t s o ok.2 (omega arith)
        (hosts_local μ n k (expr_code lengths e (Code.plain Code.sti n ∷ C)) hosted) g
        (after_then (value e s) _ _ _ o (λ v s₁ h₁ g₁ fv.
        keep_local p n k C T s₁ t v o ok.0 g₁
        (h₁ (local_good p t k s₁ v fv g₁) fv)) h))
    expr_runs (Tree.negation n e) r C T t s o ok rm hosted g h =
        expr_runs e r (add_not n C) T t s o ok rm hosted g
        (after_then (value e s) _ _ _ o (λ v s₁ h₁ g₁ fv. not_law μ n (view C) v (h₁ g₁ (fits-flag (is_zero v)))) h)
    expr_runs (Tree.binary n op e f) r C T t s o ok rm hosted g h =
        let w : 1 ≤ r = ok.2 in
        expr_runs e r (expr_code lengths f (operator_code op n C)) T t s o ok.0 rm hosted g
        (after_then (value e s) _ _ _ o (λ x s₁ h₁ g₁ fx.
        expr_runs f (pred r) (operator_code op n C) (x ∷ T) t s₁ o ok.1 (omega arith) (hosts_expr μ lengths e (expr_code lengths f (operator_code op n C)) hosted) g₁
        (after_then (value f s₁) _ _ _ o (λ y s₂ h₂ g₂ fy. operator_law p n op x y C T s₂ t o fx g₂ h₂) h₁)) h)
    expr_runs (Tree.both n e f) r C T t s o ok rm hosted g h =
        let w : 1 ≤ r = ok.2 in
        let t₁ = (and_way n C).to in
        let m₁ = (and_way n C).mark in
        let C₁ = (and_way n C).rest in
        let h₂ : Hosts μ (expr_code lengths f C₁) = hosts_tail μ (Code.ifzero t₁ m₁) (expr_code lengths f C₁) (hosts_expr μ lengths e (Code.ifzero t₁ m₁ ∷ expr_code lengths f C₁) hosted) in
        let h₃ : Hosts μ C₁ = hosts_expr μ lengths f C₁ h₂ in
        expr_runs e r (Code.ifzero t₁ m₁ ∷ expr_code lengths f C₁) T t s o ok.0 rm hosted g
        (after_then (value e s) _ _ _ o (λ x s₁ h₁ g₁ fx.
        let q = room p T s₁ t r g₁ rm in
        ifzero_law μ t₁ m₁ (expr_code lengths f C₁) x (T ++ frame p s₁) (at p s₁) o
        (λ z. and_short μ n (view C) (T ++ frame p s₁) (omega arith) h₃ ((rw z at h₁) g₁ (fits-flag false)))
        (λ z. expr_runs f r C₁ T t s₁ o ok.1 rm h₂ g₁
        (after_map (value f s₁) _ _ o (λ v s₂ u g₂ fv. and_rest μ n (view C) (v ∷ (T ++ frame p s₂)) h₃ (u g₂ fv)) (rw z at h₁)))) h)
    expr_runs (Tree.call n f a) r C T t s o ok rm hosted g h =
        args_run a r (Code.call (count a) f n ∷ C) T t s o ok.0 rm hosted g
        (after_then (values a s) _ _ _ o (λ vs s₁ h₁ g₁ fvs len le.
        subst (λ (m : ℕ). Run μ (Code.call m f n ∷ C) (onto vs (T ++ frame p s₁)) (at p s₁) o) len
        (call_runs n f vs C T t s₁ o (subst (Known f) (sym len) ok.1) fvs (omega arith) g₁ h₁)) h)

    pub args_run : (a : Args) (r : ℕ) (C : Code) (T : List ℤ) (t : ℕ) (s : State) (o : Finish)
        → OkA lengths p.locals p.globals Known a r → length T + r ≤ p.spare → Hosts μ (args_code lengths a C) → Good p t s
        → After (values a s) (λ vs s₁. Good p t s₁ → Fit vs → length vs ≡ count a → length vs ≤ r → Run μ C (onto vs (T ++ frame p s₁)) (at p s₁) o) o
        → Here (args_code lengths a C) T s o
    args_run (Tree.none n) r C T t s o ok rm hosted g h = h g tt refl (omega arith)
    args_run (Tree.also n e a) r C T t s o ok rm hosted g h =
        let w : 1 ≤ r = ok.2 in
        expr_runs e r (args_code lengths a C) T t s o ok.0 rm hosted g
        (after_then (value e s) _ _ _ o (λ v s₁ h₁ g₁ fv.
        args_run a (pred r) C (v ∷ T) t s₁ o ok.1 (omega arith) (hosts_expr μ lengths e (args_code lengths a C) hosted) g₁
        (after_then (values a s₁) _ _ _ o (λ vs s₂ h₂ g₂ fvs len le. h₂ g₂ (fv, fvs) (ap suc len) (omega arith)) h₁)) h)
