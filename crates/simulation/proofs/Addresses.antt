-- Locals, globals and elements: how their addresses are made, and what is read and written there.
use Rattle.std.proofs.Common.{◌≡◌, ℕ, suc, ◌+◌, ◌<◌, ◌≤◌, Bool, true, false, ltb, List, [], ◌∷◌, ◌++◌, length, get_or, set, ℤ, pos, negsuc, nat_abs, refl, ap, ◌∙◌, arith, length-append, length-set, ltb-true, le-ltb}
use Rattle.answer.specs.declared.Ending.TheVariants.{IndexOutside}
use Rattle.meaning.specs.Steps.{State, with_locals, with_globals}
use Rattle.meaning.specs.Meaning.{within}
use Rattle.scheme.specs.Code.{Code, view, size}
use Rattle.scheme.specs.Code
use Rattle.scheme.specs.Writing.{add_cst}
use Rattle.scheme.specs.Scheme.{local_code, element_code}
use Rattle.symbolic.specs.Symbolic.{Fits, Finish, failed, EndsIn, ends, onto, Suffix, same, more}
use Rattle.simulation.proofs.Machine.{Machine, Hosts}
use Rattle.simulation.proofs.Words.{fits_small, add_small}
use Rattle.simulation.proofs.Stack.{fit_set, fetch_over, fetch-local, store_over, store-local, fetch-global, store-global}
use Rattle.simulation.proofs.Laws.{cst_law}
use Rattle.simulation.proofs.Frames.{Place, Good, frame, At, below_length, frame_length, room}

-- an index that is within is a number below the length
pub within_lt : (len : ℕ) (x : ℤ) → within len x ≡ true → nat_abs x < len
within_lt len (pos a) e = ltb-true a len e
within_lt len (negsuc a) e = absurd (let z : ◌≡◌ {A = ℕ} 0 1 = cc in omega arith)

-- a state stays within its frame when a word that fits is stored
pub local_good : (p : Place) (t k : ℕ) (s : State) (v : ℤ) → Fits v → Good p t s → Good p t (with_locals s (set s.locals k v))
local_good p t k s v fv g =
    record { glen = g.glen; gfit = g.gfit; lens = length-set s.locals k v ∙ g.lens; fit = fit_set s.locals k v fv g.fit; turns = g.turns; most = g.most }

pub global_good : (p : Place) (t k : ℕ) (s : State) (v : ℤ) → Fits v → Good p t s → Good p t (with_globals s (set s.globals k v))
global_good p t k s v fv g =
    record { glen = length-set s.globals k v ∙ g.glen; gfit = fit_set s.globals k v fv g.gfit; lens = g.lens; fit = g.fit; turns = g.turns; most = g.most }

-- where an element's address is made from its index, and the second test of that index, in front of it
abbrev sum_code : ℕ → ℕ → Code → Code
sum_code n w C = add_cst (pos w) n (Code.plain Code.add n ∷ C)

abbrev second_test : ℕ → ℕ → ℕ → Code → Code
second_test n len w C =
    Code.plain Code.dup n ∷ Code.csti (pos len) n ∷ Code.plain Code.lt n ∷ Code.ifnzro (Code.behind (size (sum_code n w C))) n
    ∷ Code.label ∷ Code.csti (negsuc 0) n ∷ Code.plain Code.ldi n ∷ Code.label ∷ sum_code n w C

module _ (p : Place) where
  abbrev μ : Machine
  μ = p.machine

  abbrev Here : Code → List ℤ → State → Finish → Type 0
  Here = At p

  -- GETBP, k, ADD: the address of a local
  pub address : (n k : ℕ) (C : Code) (T : List ℤ) (s : State) (t : ℕ) (o : Finish) → k < p.locals → length T + 2 ≤ p.spare → Good p t s
      → Hosts μ (local_code n k C)
      → Here C (pos (p.base + k) ∷ T) s o → Here (local_code n k C) T s o
  unfolding EndsIn
  address n k C T s t o kn rm g hosted h =
      let r = room p T s t 2 g rm in
      bp r (cst_law μ (pos k) n (view (Code.plain Code.add n ∷ C)) (pos p.base ∷ (T ++ frame p s)) (omega arith)
      (λ D l u. hosted D l (behind u)) (sum h))
    where
      behind : {D E : Code} → Suffix D E → Suffix D (Code.plain Code.getbp n ∷ E)
      behind u = more u

      sum : Here C (pos (p.base + k) ∷ T) s o → Here (Code.plain Code.add n ∷ C) (pos k ∷ pos p.base ∷ T) s o
      sum (ends j q) = ends (suc j) (fits_small p.base (omega arith), rw (add_small p.base k (omega arith)) q)

      bp : length (T ++ frame p s) + 2 ≤ μ.cap → Here (add_cst (pos k) n (Code.plain Code.add n ∷ C)) (pos p.base ∷ T) s o
          → Here (local_code n k C) T s o
      bp r (ends j q) = ends (suc j) (omega arith, q)

  pub load_local : (n k : ℕ) (C : Code) (T : List ℤ) (s : State) (t : ℕ) (o : Finish) → k < p.locals → Good p t s
      → Here C (get_or s.locals k (pos 0) ∷ T) s o → Here (Code.plain Code.ldi n ∷ C) (pos (p.base + k) ∷ T) s o
  unfolding EndsIn
  load_local n k C T s t o kn g (ends j q) =
      let c = g.lens in
      let a₁ = length-append T (frame p s) in
      let a₂ = frame_length p s t g in
      let a₃ = below_length p s t g in
      ends (suc j) (
        omega arith,
        rw (fetch_over T (frame p s) (p.base + k) (omega arith) ∙ fetch-local s.locals (p.below ++ onto s.globals []) k (p.base + k) (omega arith) (omega arith)) q,
      )

  pub keep_local : (n k : ℕ) (C : Code) (T : List ℤ) (s : State) (t : ℕ) (v : ℤ) (o : Finish) → k < p.locals → Good p t s
      → Here C (v ∷ T) (with_locals s (set s.locals k v)) o → Here (Code.plain Code.sti n ∷ C) (v ∷ pos (p.base + k) ∷ T) s o
  unfolding EndsIn
  keep_local n k C T s t v o kn g (ends j q) =
      let c = g.lens in
      let a₁ = length-append T (frame p s) in
      let a₂ = frame_length p s t g in
      let a₃ = below_length p s t g in
      ends (suc j) (
        p.base + k,
        refl,
        omega arith,
        rw (store_over T (frame p s) (p.base + k) v (omega arith) ∙ ap (λ l. T ++ l) (store-local s.locals (p.below ++ onto s.globals []) k (p.base + k) v (omega arith) (omega arith))) q,
      )

  pub load_global : (n k : ℕ) (C : Code) (T : List ℤ) (s : State) (t : ℕ) (o : Finish) → k < p.globals → Good p t s
      → Here C (get_or s.globals k (pos 0) ∷ T) s o → Here (Code.plain Code.ldi n ∷ C) (pos k ∷ T) s o
  unfolding EndsIn
  load_global n k C T s t o kn g (ends j q) =
      let c = g.glen in
      let a₁ = length-append T (frame p s) in
      let a₂ = frame_length p s t g in
      ends (suc j) (omega arith, rw (fetch-global T s.locals p.below s.globals k (omega arith)) q)

  pub keep_global : (n k : ℕ) (C : Code) (T : List ℤ) (s : State) (t : ℕ) (v : ℤ) (o : Finish) → k < p.globals → Good p t s
      → Here C (v ∷ T) (with_globals s (set s.globals k v)) o → Here (Code.plain Code.sti n ∷ C) (v ∷ pos k ∷ T) s o
  unfolding EndsIn
  keep_global n k C T s t v o kn g (ends j q) =
      let c = g.glen in
      let a₁ = length-append T (frame p s) in
      let a₂ = frame_length p s t g in
      ends (suc j) (k, refl, omega arith, rw (store-global T s.locals p.below s.globals k v (omega arith)) q)

  -- an element's address: its index x is tested, then the first word is added
  pub element_law : (n len w : ℕ) (x : ℤ) (C : Code) (T : List ℤ) (s : State) (t : ℕ) (o : Finish) → w + len ≤ p.globals → length T + 3 ≤ p.spare → Good p t s
      → Hosts μ (element_code n len w C)
      → (within len x ≡ false → o ≡ failed IndexOutside n s.left s.deepest s.readings)
      → (within len x ≡ true → Here C (pos (w + nat_abs x) ∷ T) s o)
      → Here (element_code n len w C) (x ∷ T) s o
  unfolding EndsIn
  element_law n len w (negsuc a) C T s t o wl rm g hosted bad good =
      let q = room p T s t 3 g rm in
      let D = Code.label ∷ Code.csti (negsuc 0) n ∷ Code.plain Code.ldi n ∷ Code.label ∷ sum_code n w C in
      ends 7 (omega arith, (omega arith, (D, hosted D refl (more (more (more (more (more (more (more (more same)))))))), omega arith, (omega arith, bad refl))))
  element_law n len w (pos a) C T s t o wl rm g hosted bad good = first (room p T s t 3 g rm) (second (room p T s t 3 g rm) (ltb a len) refl)
    where
      first : length (T ++ frame p s) + 3 ≤ μ.cap
          → Here (second_test n len w C) (pos a ∷ T) s o
          → Here (element_code n len w C) (pos a ∷ T) s o
      first r (ends k q) = ends (suc (suc (suc (suc k)))) (omega arith, (omega arith, rw (le-ltb a 0 (omega arith)) q))

      sum : a < len → Here C (pos (w + a) ∷ T) s o → Here (Code.plain Code.add n ∷ C) (pos w ∷ pos a ∷ T) s o
      sum lt (ends k q) =
          let e : a + w ≡ w + a = omega arith in
          ends (suc k) (fits_small a (omega arith), rw (add_small a w (omega arith), e) q)

      jump : length (T ++ frame p s) + 3 ≤ μ.cap → ltb a len ≡ true → Here (sum_code n w C) (pos a ∷ T) s o
          → Here (second_test n len w C) (pos a ∷ T) s o
      jump r e (ends k q) =
          let D = Code.label ∷ sum_code n w C in
          ends (suc (suc (suc (suc (suc k))))) (omega arith, (omega arith, rw e (D, hosted D refl (more (more (more (more (more (more (more (more (more (more (more same))))))))))), omega arith, q)))

      second : length (T ++ frame p s) + 3 ≤ μ.cap → (z : Bool) → ltb a len ≡ z
          → Here (second_test n len w C) (pos a ∷ T) s o
      second r true e =
          jump r e (cst_law μ (pos w) n (view (Code.plain Code.add n ∷ C)) (pos a ∷ (T ++ frame p s)) (omega arith)
          (λ D l u. hosted D l (more (more (more (more (more (more (more (more (more (more (more (more u))))))))))))) (sum (ltb-true a len e) (good e)))
      second r false e = ends 7 (omega arith, (omega arith, rw e (omega arith, bad e)))
