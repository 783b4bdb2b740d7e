-- A call, if functions do what they mean one level deeper: what becomes of the stack, the depth and the turns.
use Rattle.std.proofs.Common.{◌≡◌, ℕ, zero, suc, pred, ◌+◌, ◌-◌, ◌*◌, ◌<◌, ◌≤◌, max, Bool, true, false, ltb, List, [], ◌∷◌, ◌++◌, length, ℤ, pos, sym, refl, ap, subst, arith, length-append, ltb-true}
use Rattle.meaning.specs.Tree.{Script}
use Rattle.meaning.specs.Steps.{State, Out, fine, ◌then◌, with_locals, with_left, with_depth, restoring}
use Rattle.meaning.specs.Meaning.{entering, body}
use Rattle.scheme.specs.Code.{Code, size}
use Rattle.scheme.specs.Code
use Rattle.symbolic.specs.Symbolic.{Fits, Rest, Finish, EndsIn, ends, onto, Suffix}
use Rattle.symbolic.specs.Proper.{Fit}
use Rattle.symbolic.specs.Proper.{frame_limit}
use Rattle.simulation.proofs.Stack.{len_onto, stack_assoc}
use Rattle.simulation.proofs.Machine.{Machine, In, Run}
use Rattle.simulation.proofs.Frames.{After, after_then, after_same, Place, frame, at, Valued, CallRuns}
use Rattle.simulation.proofs.Turns.{descend-none, descend_far, descend_one}

-- what a function returns to: its caller's base, words but for the globals, depth, code behind the call, and where that returns to
pub record Caller : Type 0 where
  pub base : ℕ
  pub words : List ℤ
  pub depth : ℕ
  pub rest : Code
  pub back : List Code

-- back in the caller
abbrev pub resumed : Caller → State → Rest
resumed c s = record { base = c.base; left = s.left; depth = c.depth; deep = s.deepest; out = s.readings; back = c.back }

-- how the machine goes on after a function: behind its call, with the value on the caller's words
abbrev pub Behind : Machine → ℕ → Caller → ℕ → Finish → ℤ → State → Type 0
Behind μ gl c t o v s =
    s.left ≤ t → Fits v → Fit s.globals → length s.globals ≡ gl → Run μ c.rest (v ∷ (c.words ++ onto s.globals [])) (resumed c s) o

-- what a call puts on its caller's words, and where it goes on
abbrev pub linked : Machine → Caller → List ℤ
linked μ c = pos c.base ∷ pos (size μ.code - size c.rest) ∷ c.words

abbrev pub entered : ℕ → Caller → State → Rest
entered gl c s =
    record { base = suc (suc (length c.words + gl)); left = s.left; depth = suc c.depth; deep = s.deepest; out = s.readings; back = c.rest ∷ c.back }

-- functions do what they mean, with less than k turns left, where there is room for the call and j more levels
abbrev pub BodyRuns : Script → Machine → ℕ → (ℕ → ℕ → Type 0) → ℕ → Type 0
BodyRuns script μ gl Known k =
    (c : Caller) (j f : ℕ) (args : List ℤ) (s : State) (o : Finish)
    → Known f (length args) → Fit args → Fit s.globals → length s.globals ≡ gl → s.left < k
    → suc c.depth + j ≡ μ.limit → length c.words + gl + frame_limit * suc j ≤ μ.cap
    → After (body script μ.board μ.limit k (suc c.depth) f args s) (Behind μ gl c s.left o) o
    → (D : Code) × Suffix (Code.entry f ∷ D) μ.code × Run μ D (onto args (linked μ c ++ onto s.globals [])) (entered gl c s) o

-- a function that calls, with the words T on its frame
abbrev calling : Place → List ℤ → State → Code → Caller
calling p T s C = record { base = p.base; words = T ++ onto s.locals p.below; depth = p.depth; rest = C; back = p.back }

module _ (script : Script) (Known : ℕ → ℕ → Type 0) (p : Place) where
  abbrev μ : Machine
  μ = p.machine

  -- a function one level deeper
  abbrev deeper : ℕ → List ℤ → State → Out ℤ
  deeper = body script μ.board μ.limit p.top (suc p.depth)

  -- a call whose turn and level are yet to be had
  abbrev due : State → ℕ → List ℤ → Out (Unit {0}) → Out ℤ
  due s f vs m = (m then λ _ s₁. deeper f vs s₁) then λ v s₁. fine v (with_locals s₁ s.locals)

  pub call_runs : (j : ℕ) → BodyRuns script μ p.globals Known p.top
      → p.depth + j ≡ μ.limit → p.base + p.locals + p.spare + frame_limit * j ≤ μ.cap
      → CallRuns p (entering μ.limit p.depth deeper) Known
  unfolding EndsIn
  call_runs j ih dj rm n f vs C T t s o kn fv len g h = go s.left g.turns g.most h
    where
      long : length (calling p T s C).words + length vs ≤ length p.below + p.locals + p.spare
      long = let a = length-append T (onto s.locals p.below) in let c = len_onto s.locals p.below in let e = g.lens in omega arith

      all : length ((calling p T s C).words ++ onto s.globals []) ≡ length (calling p T s C).words + p.globals
      all = let a = length-append (calling p T s C).words (onto s.globals []) in let c = len_onto s.globals [] in let e = g.glen in omega arith

      under : onto vs (T ++ frame p s) ≡ onto vs ((calling p T s C).words ++ onto s.globals [])
      under = ap (onto vs) (stack_assoc T s.locals p.below (onto s.globals []))

      put : (l : ℕ) → ltb p.depth μ.limit ≡ true → length (onto vs ((calling p T s C).words ++ onto s.globals [])) + 2 ≤ μ.cap
          → (D : Code) → Suffix (Code.entry f ∷ D) μ.code
          → Run μ D (onto vs (linked μ (calling p T s C) ++ onto s.globals []))
          (entered p.globals (calling p T s C) (with_depth (with_left s l) (suc p.depth))) o
          → Run μ (Code.call (length vs) f n ∷ C) (onto vs (T ++ frame p s)) (at p (with_left s (suc l))) o
      put l e room D u (ends i q) =
          ends (suc i) (
            vs,
            ((calling p T s C).words ++ onto s.globals []),
            under,
            refl,
            rw e (
              room,
              D,
              u,
              subst (λ (x : ℕ). In μ i D (onto vs (linked μ (calling p T s C) ++ onto s.globals []))
                  (record { base = suc (suc x); left = l; depth = suc p.depth; deep = max (suc p.depth) s.deepest; out = s.readings; back = C ∷ p.back }) o) (sym all) q,
            ),
          )

      yes : (l : ℕ) → suc l ≤ t → suc l ≤ p.top → ltb p.depth μ.limit ≡ true
          → After (due s f vs (fine tt (with_depth (with_left s l) (suc p.depth)))) (Valued p t C T o) o
          → Run μ (Code.call (length vs) f n ∷ C) (onto vs (T ++ frame p s)) (at p (with_left s (suc l))) o
      yes l lt lk e q =
          let z = ltb-true p.depth μ.limit e in
          let w = p.based in
          let a = len_onto vs ((calling p T s C).words ++ onto s.globals []) in
          let x = ih (calling p T s C) (pred j) f vs (with_depth (with_left s l) (suc p.depth)) o kn fv g.gfit g.glen (omega arith) (omega arith) (omega (arith, long))
          (after_then (deeper f vs (with_depth (with_left s l) (suc p.depth))) _ _ _ o
          (λ v s₁ h₁ le fv₁ gf ge. subst (λ (y : List ℤ). Run μ C (v ∷ y) (resumed (calling p T s C) s₁) o) (stack_assoc T s.locals p.below (onto s₁.globals []))
          (h₁ (record { glen = ge; gfit = gf; lens = g.lens; fit = g.fit; turns = omega arith; most = omega arith }) fv₁)) q) in
          put l e (omega (arith, long, all)) x.0 x.1 x.2

      decide : (l : ℕ) (x : Bool) → ltb p.depth μ.limit ≡ x → suc l ≤ t → suc l ≤ p.top
          → After (restoring (entering μ.limit p.depth deeper n f vs) (with_left s (suc l))) (Valued p t C T o) o
          → Run μ (Code.call (length vs) f n ∷ C) (onto vs (T ++ frame p s)) (at p (with_left s (suc l))) o
      decide l true e lt lk q =
          yes l lt lk e (after_same (due s f vs) (Valued p t C T o) o (descend_one μ.limit p.depth n l (with_left s (suc l)) refl e) q)
      decide l false e lt lk q =
          let q₁ = after_same (due s f vs) (Valued p t C T o) o (descend_far μ.limit p.depth n l (with_left s (suc l)) refl e) q in
          ends 1 (vs, ((calling p T s C).words ++ onto s.globals []), under, refl, rw e q₁)

      go : (l : ℕ) → l ≤ t → l ≤ p.top
          → After (restoring (entering μ.limit p.depth deeper n f vs) (with_left s l)) (Valued p t C T o) o
          → Run μ (Code.call (length vs) f n ∷ C) (onto vs (T ++ frame p s)) (at p (with_left s l)) o
      go zero lt lk q =
          ends 1 (
            vs,
            ((calling p T s C).words ++ onto s.globals []),
            under,
            refl,
            after_same (due s f vs) (Valued p t C T o) o (descend-none μ.limit p.depth n (with_left s zero) (omega arith)) q,
          )
      go (suc l) lt lk q = decide l (ltb p.depth μ.limit) refl lt lk q
