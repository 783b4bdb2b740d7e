-- Functions: what their code does is what they mean, by induction on the turns left.
use Rattle.std.proofs.Common.{◌≡◌, ℕ, zero, suc, ◌+◌, ◌*◌, ◌^◌, ◌<◌, ◌≤◌, List, [], ◌∷◌, ◌++◌, length, get_or, replicate, ℤ, pos, refl, arith, length-append}
use lib.ListN.{length-replicate}
use Rattle.answer.specs.Numbers.{no_place}
use Rattle.meaning.specs.Tree.{Function, Script}
use Rattle.meaning.specs.Steps.{State, Out, ◌then◌, with_locals, with_left, Flow, falls, returns, replaces, spend}
use Rattle.meaning.specs.Meaning.{exec, no_function, finish, entering, body}
use Rattle.scheme.specs.Code.{Code, view}
use Rattle.scheme.specs.Code
use Rattle.scheme.specs.Writing.{dead, add_cst}
use Rattle.scheme.specs.Scheme.{stmt_code, zeros_code, body_code}
use Rattle.symbolic.specs.Symbolic.{Rest, Finish, EndsIn, ends, onto, Suffix, same, more}
use Rattle.symbolic.specs.Proper.{Fit, OkS}
use Rattle.symbolic.specs.Proper.{frame_limit}
use Rattle.scheme.proofs.Keep.{keeps_trans, keeps_stmt, keeps_cst, keeps_zeros}
use Rattle.simulation.proofs.Words.{fits_zero}
use Rattle.simulation.proofs.Stack.{fit_append, fit_zeros, len_onto, onto-append}
use Rattle.simulation.proofs.Machine.{Machine, Run, Hosts}
use Rattle.simulation.proofs.Laws.{cst_law}
use Rattle.simulation.proofs.Turns.{spent_none, spent_one}
use Rattle.simulation.proofs.Frames.{After, after_then, after_map, Place, Good, frame}
use Rattle.simulation.proofs.Statements.{Flows, stmt_runs}
use Rattle.simulation.proofs.Calls.{Caller, resumed, Behind, linked, entered, BodyRuns, call_runs}

suffix_trans : {A B C : Code} → Suffix A B → Suffix B C → Suffix A C
suffix_trans s same = s
suffix_trans s (more t) = more (suffix_trans s t)

-- what is known of function f, called with m arguments: where its code stands, and that it is proper
pub record Info (P : Code) (lengths : List ℕ) (fns : List Function) (gl spare : ℕ) (Known : ℕ → ℕ → Type 0) (f m : ℕ) : Type 0 where
  pub parameters : (get_or fns f no_function).parameters ≡ m
  pub small : m + (get_or fns f no_function).locals + spare + 2 ≤ frame_limit
  pub rest : Code
  pub placed : Suffix (Code.entry f ∷ body_code lengths (get_or fns f no_function) rest) P
  pub ok : OkS lengths ((get_or fns f no_function).parameters + (get_or fns f no_function).locals) gl spare Known (get_or fns f no_function).body

zeros_law : (μ : Machine) (j : ℕ) (C : Code) (S : List ℤ) (ρ : Rest) (o : Finish) → length S + j ≤ μ.cap → Hosts μ (zeros_code j C)
    → Run μ C (onto (replicate j (pos 0)) S) ρ o → Run μ (zeros_code j C) S ρ o
unfolding zeros_code
zeros_law μ zero C S ρ o rm hosted h = h
zeros_law μ (suc j) C S ρ o rm hosted h =
    cst_law μ (pos 0) no_place (view (zeros_code j C)) S (omega arith) hosted
    (zeros_law μ j C (pos 0 ∷ S) ρ o (omega arith) (keeps_trans {B = add_cst (pos 0) no_place (zeros_code j C)} hosted (keeps_cst (pos 0) no_place (view (zeros_code j C)))) h)

module _ (script : Script) (μ : Machine) (gl spare : ℕ) (some : 1 ≤ spare) (small : μ.cap < 2 ^ 31) (Known : ℕ → ℕ → Type 0)
    (info : (f m : ℕ) → Known f m → Info μ.code script.lengths script.functions gl spare Known f m) where
  -- there is room for the call of a function and j more levels; and a frame is large enough for a function
  abbrev Room : Caller → ℕ → Type 0
  Room c j = length c.words + gl + frame_limit * suc j ≤ μ.cap

  abbrev Holds : ℕ → Type 0
  Holds nl = nl + spare + 2 ≤ frame_limit

  -- a function that was called so, at most k calls one in another or one after another
  abbrev runs : ℕ → Caller → ℕ → List ℤ → State → Out ℤ
  runs k c = body script μ.board μ.limit k (suc c.depth)

  -- where a function with nl locals runs that was called so
  abbrev inside : (c : Caller) (j nl k : ℕ) → Room c j → Holds nl → Place
  inside c j nl k rm sm =
      record {
        machine = μ;
        below = linked μ c;
        base = suc (suc (length c.words + gl));
        depth = suc c.depth;
        back = c.rest ∷ c.back;
        locals = nl;
        globals = gl;
        spare = spare;
        top = k;
        small = small;
        based = omega arith;
        fits = omega arith;
      }

  -- RET takes a frame away: its locals and the two words below them
  return_law : (m nl : ℕ) (X : Code) (v : ℤ) (c : Caller) (s : State) (o : Finish) → length s.locals ≡ nl
      → Run μ c.rest (v ∷ (c.words ++ onto s.globals [])) (resumed c s) o
      → Run μ (Code.ret nl m ∷ X) (v ∷ onto s.locals (linked μ c ++ onto s.globals [])) (entered gl c s) o
  unfolding EndsIn
  return_law m nl X v c s o len (ends k q) = ends (suc k) (v, s.locals, c.base, _, (c.words ++ onto s.globals []), refl, len, c.depth, refl, (refl, q))

  -- a call that replaces its caller, for a turn
  replace_law : (k : ℕ) → BodyRuns script μ gl Known k → (c : Caller) (j nl t n f l : ℕ) (vs : List ℤ) (s : State) (o : Finish) (rm : Room c j) (sm : Holds nl)
      → suc c.depth + j ≡ μ.limit → Fit vs → Known f (length vs) → Good (inside c j nl k rm sm) t (with_left s l)
      → After (spend n (with_left s l) then λ _ s₁. runs k c f vs s₁) (Behind μ gl c t o) o
      → Run μ (Code.tcall (length vs) nl f n ∷ []) (onto vs (onto s.locals (linked μ c ++ onto s.globals []))) (entered gl c (with_left s l)) o
  unfolding EndsIn
  replace_law k ih c j nl t n f zero vs s o rm sm dj fv kn g h =
      ends 1 (
        vs,
        s.locals,
        (linked μ c ++ onto s.globals []),
        refl,
        refl,
        g.lens,
        omega arith,
        spent_none n (with_left s zero) (runs k c f vs) (Behind μ gl c t o) o (omega arith) h,
      )
  replace_law k ih c j nl t n f (suc l) vs s o rm sm dj fv kn g h =
      let w : suc l ≤ t = g.turns in
      let w₂ : suc l ≤ k = g.most in
      let x = ih c j f vs (with_left s l) o kn fv g.gfit g.glen (omega arith) dj rm
      (after_map (runs k c f vs (with_left s l)) _ _ o (λ v s₁ q le fv₁. q (omega arith) fv₁)
      (spent_one n l (with_left s (suc l)) (runs k c f vs) (Behind μ gl c t o) o refl h)) in
      put x.0 x.1 x.2
    where
      put : (D : Code) → Suffix (Code.entry f ∷ D) μ.code
          → Run μ D (onto vs (linked μ c ++ onto s.globals [])) (entered gl c (with_left s l)) o
          → Run μ (Code.tcall (length vs) nl f n ∷ []) (onto vs (onto s.locals (linked μ c ++ onto s.globals []))) (entered gl c (with_left s (suc l))) o
      put D u (ends i q) = ends (suc i) (vs, s.locals, (linked μ c ++ onto s.globals []), refl, refl, g.lens, omega arith, (D, u, q))

  -- what follows a body does what is due after it, however it ends
  end_law : (k : ℕ) → BodyRuns script μ gl Known k → (c : Caller) (j nl t : ℕ) (X : Code) (o : Finish) (rm : Room c j) (sm : Holds nl)
      → suc c.depth + j ≡ μ.limit → Hosts μ (add_cst (pos 0) no_place (Code.ret nl no_place ∷ X))
      → (fl : Flow) (s : State) → After (finish (runs k c) fl s) (Behind μ gl c t o) o → Good (inside c j nl k rm sm) t s
      → Flows (inside c j nl k rm sm) Known (add_cst (pos 0) no_place (Code.ret nl no_place ∷ X)) fl s o
  end_law k ih c j nl t X o rm sm dj hosted falls s h g =
      let a = len_onto s.locals (linked μ c ++ onto s.globals []) in
      let a₂ = length-append c.words (onto s.globals []) in
      let a₃ = len_onto s.globals [] in
      let e = g.lens in
      let e₂ = g.glen in
      cst_law μ (pos 0) no_place (view (Code.ret nl no_place ∷ X)) (frame (inside c j nl k rm sm) s) (omega arith) hosted
      (return_law no_place nl X (pos 0) c s o g.lens (h g.turns fits_zero g.gfit g.glen))
  end_law k ih c j nl t X o rm sm dj hosted (returns v) s h g = λ fv. return_law 0 nl [] v c s o g.lens (h g.turns fv g.gfit g.glen)
  end_law k ih c j nl t X o rm sm dj hosted (replaces n f vs) s h g = λ fv kn. replace_law k ih c j nl t n f s.left vs s o rm sm dj fv kn g h

  pub body_runs : (k : ℕ) → BodyRuns script μ gl Known k
  unfolding body
  body_runs zero c j f args s o kn fa gf ge lt dj rm h = absurd (omega arith)
  body_runs (suc k) c j f args s o kn fa gf ge lt dj rm h =
      let I = info f (length args) kn in
      let fn = get_or script.functions f no_function in
      let nl = fn.parameters + fn.locals in
      let e₀ = I.parameters in
      let e₁ = I.small in
      let sm : Holds nl = omega arith in
      let p = inside c j nl k rm sm in
      let E = add_cst (pos 0) no_place (Code.ret nl no_place ∷ dead I.rest) in
      let zeros = replicate fn.locals (pos 0) in
      let below = linked μ c ++ onto s.globals [] in
      let s₀ = with_locals s (args ++ zeros) in
      let a₁ = length-append args zeros in
      let a₂ = length-replicate fn.locals (pos 0) in
      let a₃ = len_onto args below in
      let a₄ = length-append c.words (onto s.globals []) in
      let a₅ = len_onto s.globals [] in
      let k₀ : Hosts μ (body_code script.lengths fn I.rest) = λ D l u. suffix_trans u (suffix_trans (more same) I.placed) in
      let k₁ : Hosts μ (stmt_code script.lengths nl fn.body E) = keeps_trans {B = body_code script.lengths fn I.rest} k₀ (keeps_zeros fn.locals (stmt_code script.lengths nl fn.body E)) in
      let k₂ : Hosts μ E = keeps_trans {B = stmt_code script.lengths nl fn.body E} k₁ (keeps_stmt script.lengths nl fn.body E) in
      let enter = entering μ.limit (suc c.depth) (body script μ.board μ.limit k (suc (suc c.depth))) in (
        body_code script.lengths fn I.rest,
        I.placed,
        zeros_law μ fn.locals (stmt_code script.lengths nl fn.body E) (onto args below) _ o (omega arith) k₀
            (rw (← onto-append args zeros below)
            (stmt_runs p script.lengths enter Known (call_runs script Known p j (body_runs k) dj (omega arith))
            fn.body E s.left s₀ o I.ok k₁
            (record { glen = ge; gfit = gf; lens = omega arith; fit = fit_append args zeros fa (fit_zeros fn.locals); turns = omega arith; most = omega arith })
            (after_then (exec script.lengths μ.board enter fn.body s₀) _ _ _ o
            (end_law k (body_runs k) c j nl s.left (dead I.rest) o rm sm dj k₂) h))),
      )
