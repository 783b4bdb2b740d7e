-- The frame of the function that runs, and what is to come after a part of it. Every simulation is of this form: if the code C that follows does
-- what is due after the part, from whatever state the part leaves, then the part's code in front of C does what is due before it.
use Rattle.std.proofs.Common.{◌≡◌, ℕ, ◌+◌, ◌^◌, ◌<◌, ◌≤◌, List, [], ◌∷◌, ◌++◌, length, ℤ, subst, arith, length-append}
use Rattle.meaning.specs.Steps.{State, Out, fine, ended, ◌then◌, Enter, restoring}
use Rattle.scheme.specs.Code.{Code}
use Rattle.scheme.specs.Code
use Rattle.symbolic.specs.Symbolic.{Fits, Rest, Finish, failed, onto}
use Rattle.symbolic.specs.Proper.{Fit}
use Rattle.simulation.proofs.Stack.{len_onto}
use Rattle.simulation.proofs.Machine.{Machine, Run}

-- what is to come after a part: Q of its result and its state, or that the run has ended so
abbrev pub After : {A : Type 0} → Out A → (A → State → Type 0) → Finish → Type 0
After (fine a s) Q o = Q a s
After (ended e n s) Q o = o ≡ failed e n s.left s.deepest s.readings

pub after_then : {A B : Type 0} (m : Out A) (k : A → State → Out B) (Q : B → State → Type 0) (R : A → State → Type 0) (o : Finish)
    → ((a : A) (s : State) → After (k a s) Q o → R a s) → After (m then k) Q o → After m R o
after_then (fine a s) k Q R o f h = f a s h
after_then (ended e n s) k Q R o f h = h

pub after_map : {A : Type 0} (m : Out A) (Q R : A → State → Type 0) (o : Finish) → ((a : A) (s : State) → Q a s → R a s) → After m Q o → After m R o
after_map (fine a s) Q R o f h = f a s h
after_map (ended e n s) Q R o f h = h

pub after_same : {A B : Type 0} {m m' : Out A} (F : Out A → Out B) (Q : B → State → Type 0) (o : Finish) → m ≡ m' → After (F m) Q o → After (F m') Q o
after_same {A} F Q o e h = subst (λ (x : Out A). After (F x) Q o) e h

-- where a function runs: the words between its locals and the globals, its base, its depth, and where calls return to; how many locals and globals
-- there are, how many words its expressions may take, and how many turns may be left at most
pub record Place : Type 0 where
  pub machine : Machine
  pub below : List ℤ
  pub base : ℕ
  pub depth : ℕ
  pub back : List Code
  pub locals : ℕ
  pub globals : ℕ
  pub spare : ℕ
  pub top : ℕ
  pub small : machine.cap < 2 ^ 31
  pub based : base ≡ length below + globals
  pub fits : base + locals + spare ≤ machine.cap

-- a state within a frame: as many globals and locals as there should be, each a word; no more turns left than t, with which the part began
pub record Good (p : Place) (t : ℕ) (s : State) : Type 0 where
  pub glen : length s.globals ≡ p.globals
  pub gfit : Fit s.globals
  pub lens : length s.locals ≡ p.locals
  pub fit : Fit s.locals
  pub turns : s.left ≤ t
  pub most : s.left ≤ p.top

pub good_more : (p : Place) (t u : ℕ) (s : State) → t ≤ u → Good p t s → Good p u s
good_more p t u s h g = let w = g.turns in record { glen = g.glen; gfit = g.gfit; lens = g.lens; fit = g.fit; turns = omega arith; most = g.most }

module _ (p : Place) where
  -- the words of a frame: its locals, what is below, and the globals at the bottom
  abbrev pub frame : State → List ℤ
  frame s = onto s.locals (p.below ++ onto s.globals [])

  -- where the machine stands in a state, but for its words; and code that runs there with the words T on the frame
  abbrev pub at : State → Rest
  at s = record { base = p.base; left = s.left; depth = p.depth; deep = s.deepest; out = s.readings; back = p.back }

  abbrev pub At : Code → List ℤ → State → Finish → Type 0
  At C T s o = Run p.machine C (T ++ frame s) (at s) o

  -- what is due after an expression: C runs with its value on T
  abbrev pub Valued : ℕ → Code → List ℤ → Finish → ℤ → State → Type 0
  Valued t C T o v s = Good p t s → Fits v → At C (v ∷ T) s o

  -- a call, its arguments worked out, does what is due
  abbrev pub CallRuns : Enter → (ℕ → ℕ → Type 0) → Type 0
  CallRuns enter Known =
      (n f : ℕ) (vs : List ℤ) (C : Code) (T : List ℤ) (t : ℕ) (s : State) (o : Finish)
      → Known f (length vs) → Fit vs → length T + length vs ≤ p.spare → Good p t s
      → After (restoring (enter n f vs) s) (Valued t C T o) o
      → Run p.machine (Code.call (length vs) f n ∷ C) (onto vs (T ++ frame s)) (at s) o

  pub below_length : (s : State) (t : ℕ) → Good p t s → length (p.below ++ onto s.globals []) ≡ p.base
  below_length s t g =
      let a₁ = length-append p.below (onto s.globals []) in
      let a₂ = len_onto s.globals [] in
      let c = g.glen in
      let e = p.based in
      omega arith

  pub frame_length : (s : State) (t : ℕ) → Good p t s → length (frame s) ≡ p.locals + p.base
  frame_length s t g = let a₁ = len_onto s.locals (p.below ++ onto s.globals []) in let a₂ = below_length s t g in let c = g.lens in omega arith

  pub room : (T : List ℤ) (s : State) (t r : ℕ) → Good p t s → length T + r ≤ p.spare → length (T ++ frame s) + r ≤ p.machine.cap
  room T s t r g h = let a₁ = length-append T (frame s) in let a₂ = frame_length s t g in let e = p.fits in omega arith
