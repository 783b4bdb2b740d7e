-- Statements: what their code does is what they mean.
use Rattle.std.proofs.Common.{ℕ, zero, suc, ◌+◌, ◌<◌, ◌≤◌, List, [], ◌∷◌, length, ℤ, sym, refl, subst, arith}
use Rattle.meaning.specs.Tree.{Expr, Stmt}
use Rattle.meaning.specs.Tree
use Rattle.meaning.specs.Steps.{State, Out, ◌then◌, with_left, Enter, spend, Flow, falls, returns, replaces, next}
use Rattle.meaning.specs.Meaning.{eval, evals, exec, loop}
use Rattle.scheme.specs.Code.{Code, front, jumps}
use Rattle.scheme.specs.Code
use Rattle.scheme.specs.Writing.{dead, add_goto, target, labelled, left_jump, add_jump}
use Rattle.scheme.specs.Scheme.{expr_code, stmt_code, count}
use Rattle.symbolic.specs.Symbolic.{Fits, Finish, EndsIn, ends, leads, onto, Suffix, same}
use Rattle.symbolic.specs.Proper.{Fit, OkE, OkS}
use Rattle.scheme.proofs.Keep.{keeps_trans, keeps_labelled, keeps_jump, keeps_GOTO}
use Rattle.simulation.proofs.Machine.{Machine, Run, Hosts, hosts_tail, hosts_expr, hosts_stmt}
use Rattle.simulation.proofs.Laws.{ifzero_law, label_law, goto_law, left_law, jump_law, ret_any, tcall_any}
use Rattle.simulation.proofs.Frames.{After, after_then, after_map, Place, Good, good_more, frame, at, At, Valued, CallRuns}
use Rattle.simulation.proofs.Turns.{spent_none, spent_one}
use Rattle.simulation.proofs.Expressions.{expr_runs, args_run}

module _ (p : Place) (Known : ℕ → ℕ → Type 0) where
  -- how the machine goes on after a statement: it runs what follows, or it returns, or it calls and replaces
  abbrev pub Flows : Code → Flow → State → Finish → Type 0
  Flows C falls s o = At p C [] s o
  Flows C (returns v) s o = Fits v → Run p.machine (Code.ret p.locals 0 ∷ []) (v ∷ frame p s) (at p s) o
  Flows C (replaces n f vs) s o =
      Fit vs → Known f (length vs) → Run p.machine (Code.tcall (length vs) p.locals f n ∷ []) (onto vs (frame p s)) (at p s) o

  abbrev pub Then : ℕ → Code → Finish → Flow → State → Type 0
  Then t C o fl s = Good p t s → Flows C fl s o

  flows_map : (C D : Code) (fl : Flow) (s : State) (o : Finish) → (At p C [] s o → At p D [] s o) → Flows C fl s o → Flows D fl s o
  flows_map C D falls s o f h = f h
  flows_map C D (returns v) s o f h = h
  flows_map C D (replaces n g vs) s o f h = h

  flows_next : (k : State → Out Flow) (C D : Code) (fl : Flow) (t : ℕ) (s : State) (o : Finish)
      → (After (k s) (Then t C o) o → At p D [] s o) → After (next k fl s) (Then t C o) o → Good p t s → Flows D fl s o
  flows_next k C D falls t s o f h g = f h
  flows_next k C D (returns v) t s o f h g = h g
  flows_next k C D (replaces n h vs) t s o f q g = q g

module _ (p : Place) (lengths : List ℕ) (enter : Enter) (Known : ℕ → ℕ → Type 0) (call_runs : CallRuns p enter Known) where
  abbrev μ : Machine
  μ = p.machine

  abbrev Here : Code → List ℤ → State → Finish → Type 0
  Here = At p

  abbrev Next : ℕ → Code → Finish → Flow → State → Type 0
  Next = Then p Known

  abbrev value : Expr → State → Out ℤ
  value = eval lengths μ.board enter

  abbrev flow : Stmt → State → Out Flow
  flow = exec lengths μ.board enter

  abbrev expr : (e : Expr) (r : ℕ) (C : Code) (T : List ℤ) (t : ℕ) (s : State) (o : Finish)
      → OkE lengths p.locals p.globals Known e r → length T + r ≤ p.spare → Hosts μ (expr_code lengths e C) → Good p t s
      → After (value e s) (Valued p t C T o) o → Here (expr_code lengths e C) T s o
  expr = expr_runs p lengths enter Known call_runs

  popped : (n : ℕ) (C : Code) (v : ℤ) (s : State) (o : Finish) → Here C [] s o → Here (Code.pop n ∷ C) (v ∷ []) s o
  unfolding EndsIn
  popped n C v s o (ends k h) = ends (suc k) h

  -- a while, once its test and its body are known to do what they mean
  module _ (n : ℕ) (e : Expr) (b : Stmt) (C W C₁ : Code) (o : Finish)
      (placed : Suffix (Code.loop_at n ∷ W) μ.code) (hosted_g : Hosts μ (add_goto (Code.loop n) n (labelled C)))
      (test_runs : (t : ℕ) (s : State) → Good p t s → After (value e s) (Valued p t (Code.ifzero (target C) n ∷ C₁) [] o) o → Here W [] s o)
      (body_runs : (t : ℕ) (s : State) → Good p t s → After (flow b s) (Next t (add_goto (Code.loop n) n (labelled C)) o) o → Here C₁ [] s o) where
    -- the test is due again, for a turn
    again : (k t l : ℕ) (s : State) → l ≤ k → Good p t (with_left s l)
        → ((s₁ : State) → s₁.left < k → Good p t s₁ → After (loop k n (value e) (flow b) s₁) (Next t C o) o → Here W [] s₁ o)
        → After (spend n (with_left s l) then λ _ s₁. loop k n (value e) (flow b) s₁) (Next t C o) o → Here (add_goto (Code.loop n) n (labelled C)) [] (with_left s l) o
    unfolding EndsIn
    again k t zero s le g rec h =
        goto_law μ (Code.loop n) n (labelled C) hosted_g (leads 0 (spent_none n (with_left s zero) (loop k n (value e) (flow b)) (Next t C o) o (omega arith) h))
    again k t (suc l) s le g rec h =
        let w : suc l ≤ t = g.turns in
        let w₂ : suc l ≤ p.top = g.most in
        go (rec (with_left s l) (omega arith) (record { glen = g.glen; gfit = g.gfit; lens = g.lens; fit = g.fit; turns = omega arith; most = omega arith })
        (spent_one n l (with_left s (suc l)) (loop k n (value e) (flow b)) (Next t C o) o refl h))
      where
        go : Here W [] (with_left s l) o → Here (add_goto (Code.loop n) n (labelled C)) [] (with_left s (suc l)) o
        go (ends j q) = goto_law μ (Code.loop n) n (labelled C) hosted_g (leads j (W, placed, q))

    loop-runs : (k t : ℕ) (s : State) → s.left < k → Good p t s → After (loop k n (value e) (flow b) s) (Next t C o) o → Here W [] s o
    unfolding loop
    loop-runs zero t s lt g h = absurd (omega arith)
    loop-runs (suc k) t s lt g h =
        let le : s.left ≤ t = g.turns in let le₂ : s.left ≤ p.top = g.most in
        test_runs s.left s (record { glen = g.glen; gfit = g.gfit; lens = g.lens; fit = g.fit; turns = omega arith; most = omega arith })
        (after_then (value e s) _ _ _ o (λ x s₁ h₁ g₁ fx.
        ifzero_law μ (target C) n C₁ x (frame p s₁) (at p s₁) o
        (λ z. label_law μ (front C) (keeps_trans {B = add_goto (Code.loop n) n (labelled C)} hosted_g (keeps_GOTO (Code.loop n) n (labelled C))) ((rw z at h₁) (good_more p s.left t s₁ le g₁)))
        (λ z. body_runs s.left s₁ g₁
        (after_then (flow b s₁) _ _ _ o (λ fl s₂ h₂ g₂.
        let w = g₂.turns in
        flows_next p Known _ C (add_goto (Code.loop n) n (labelled C)) fl t s₂ o
        (again k t s₂.left s₂ (omega arith) (good_more p s.left t s₂ le g₂) (λ s₃ l₃ g₃ h₃. loop-runs k t s₃ l₃ g₃ h₃)) h₂ (good_more p s.left t s₂ le g₂)) (rw z at h₁)))) h)

  marked : (n : ℕ) (C : Code) (s : State) (o : Finish) → Here C [] s o → Here (Code.loop_at n ∷ C) [] s o
  unfolding EndsIn
  marked n C s o (ends k h) = ends (suc k) h

  pub stmt_runs : (st : Stmt) (C : Code) (t : ℕ) (s : State) (o : Finish) → OkS lengths p.locals p.globals p.spare Known st → Hosts μ (stmt_code lengths p.locals st C) → Good p t s
      → After (flow st s) (Next t C o) o → Here (stmt_code lengths p.locals st C) [] s o
  unfolding stmt_code exec
  stmt_runs (Tree.nothing n) C t s o ok hosted g h = h g
  stmt_runs (Tree.chain n a b) C t s o ok hosted g h =
      stmt_runs a (stmt_code lengths p.locals b C) t s o ok.0 hosted g
      (after_then (flow a s) _ _ _ o (λ fl s₁ h₁ g₁.
      flows_next p Known (flow b) C (stmt_code lengths p.locals b C) fl t s₁ o
      (λ q. stmt_runs b C t s₁ o ok.1 (hosts_stmt μ lengths p.locals a (stmt_code lengths p.locals b C) hosted) g₁ q) h₁ g₁) h)
  stmt_runs (Tree.discard n e) C t s o ok hosted g h =
      expr e p.spare (Code.pop n ∷ C) [] t s o ok (omega arith) hosted g
      (after_then (value e s) _ _ _ o (λ v s₁ h₁ g₁ fv. popped n C v s₁ o (h₁ g₁)) h)
  stmt_runs (Tree.if n e a b) C t s o ok hosted g h =
      let L = left_jump C in
      let D = stmt_code lengths p.locals b L in
      let J = add_jump C n (labelled D) in
      let A = stmt_code lengths p.locals a J in
      let k₁ : Hosts μ A = hosts_tail μ (Code.ifzero (target D) n) A (hosts_expr μ lengths e (Code.ifzero (target D) n ∷ A) hosted) in
      let k₂ : Hosts μ J = hosts_stmt μ lengths p.locals a J k₁ in
      let k₃ : Hosts μ (labelled D) = keeps_trans {B = J} k₂ (keeps_jump C (jumps C) n (labelled D)) in
      let k₄ : Hosts μ D = keeps_trans {B = labelled D} k₃ (keeps_labelled (front D)) in
      let k₅ : Hosts μ L = hosts_stmt μ lengths p.locals b L k₄ in
      expr e p.spare (Code.ifzero (target D) n ∷ A) [] t s o ok.0 (omega arith) hosted g
      (after_then (value e s) _ _ _ o (λ x s₁ h₁ g₁ fx.
      ifzero_law μ (target D) n A x (frame p s₁) (at p s₁) o
      (λ z. label_law μ (front D) k₃ (stmt_runs b L t s₁ o ok.2 k₄ g₁
      (after_map (flow b s₁) _ _ o (λ fl s₂ q g₂. flows_map p Known C L fl s₂ o (left_law μ C (jumps C)) (q g₂)) (rw z at h₁))))
      (λ z. stmt_runs a J t s₁ o ok.1 k₁ g₁
      (after_map (flow a s₁) _ _ o (λ fl s₂ q g₂. flows_map p Known C J fl s₂ o (jump_law μ C (jumps C) n (labelled D) k₂ k₅) (q g₂)) (rw z at h₁)))) h)
  stmt_runs (Tree.while n e b) C t s o ok hosted g h =
      let G = add_goto (Code.loop n) n (labelled C) in
      let C₁ = stmt_code lengths p.locals b G in
      let C₂ = Code.ifzero (target C) n ∷ C₁ in
      let W = expr_code lengths e C₂ in
      let k₀ : Hosts μ W = hosts_tail μ (Code.loop_at n) W hosted in
      let k₁ : Hosts μ C₁ = hosts_tail μ (Code.ifzero (target C) n) C₁ (hosts_expr μ lengths e C₂ k₀) in
      marked n W s o (loop-runs n e b C W C₁ o (hosted (Code.loop_at n ∷ W) refl same) (hosts_stmt μ lengths p.locals b G k₁)
      (λ t₁ s₁ g₁ h₁. expr e p.spare C₂ [] t₁ s₁ o ok.0 (omega arith) k₀ g₁ h₁)
      (λ t₁ s₁ g₁ h₁. stmt_runs b G t₁ s₁ o ok.1 k₁ g₁ h₁)
      (suc s.left) t s (omega arith) g h)
  stmt_runs (Tree.return n e) C t s o ok hosted g h =
      expr e p.spare (Code.ret p.locals n ∷ dead C) [] t s o ok (omega arith) hosted g
      (after_then (value e s) _ _ _ o (λ v s₁ h₁ g₁ fv. ret_any μ p.locals 0 n [] (dead C) (h₁ g₁ fv)) h)
  stmt_runs (Tree.replace n m f l) C t s o ok hosted g h =
      args_run p lengths enter Known call_runs l p.spare (Code.tcall (count l) p.locals f m ∷ dead C) [] t s o ok.0 (omega arith) hosted g
      (after_then (evals lengths μ.board enter l s) _ _ _ o (λ vs s₁ h₁ g₁ fvs len le.
      subst (λ (j : ℕ). Run μ (Code.tcall j p.locals f m ∷ dead C) (onto vs (frame p s₁)) (at p s₁) o) len
      (tcall_any μ (length vs) p.locals f m [] (dead C) (h₁ g₁ fvs (subst (Known f) (sym len) ok.1)))) h)
