-- Operators and PRINTI, once their operands are on the stack.
use Rattle.std.proofs.Common.{◌≡◌, ℕ, Bool, true, false, not, List, ◌∷◌, ℤ, refl, subst}
use lib.Signed.{lt_z}
use Rattle.answer.specs.declared.Ending.TheVariants.{DivisorZero, PageFull}
use Rattle.board.specs.Meaning.{has_room}
use Rattle.meaning.specs.Words.{Operator, is_zero, flag, eq_z, apply, defined}
use Rattle.meaning.specs.Words
use Rattle.meaning.specs.Steps.{State, fine, ◌then◌, guard, with_reading}
use Rattle.meaning.specs.Meaning.{showing}
use Rattle.scheme.specs.Code.{Code, view}
use Rattle.scheme.specs.Code
use Rattle.scheme.specs.Writing.{add_not}
use Rattle.scheme.specs.Scheme.{operator_code}
use Rattle.symbolic.specs.Symbolic.{Fits, Finish, EndsIn, ends}
use Rattle.simulation.proofs.Words.{fits-apply}
use Rattle.simulation.proofs.Machine.{Machine}
use Rattle.simulation.proofs.Laws.{plain_law, not_law}
use Rattle.simulation.proofs.Frames.{After, Place, Good, At, Valued}

flag_not : (z : Bool) → flag (not z) ≡ flag (is_zero (flag z))
flag_not true = refl
flag_not false = refl

module _ (p : Place) where
  abbrev μ : Machine
  μ = p.machine

  abbrev Here : Code → List ℤ → State → Finish → Type 0
  Here = At p

  -- a test, and NOT behind it
  negated : (n : ℕ) (z : Bool) (C : Code) (T : List ℤ) (s : State) (o : Finish) → Here C (flag (not z) ∷ T) s o → Here (add_not n C) (flag z ∷ T) s o
  negated n z C T s o h = not_law μ n (view C) (flag z) (subst (λ (v : ℤ). Here C (v ∷ T) s o) (flag_not z) h)

  -- LT, its operands exchanged first
  swapped : (n : ℕ) (x y : ℤ) (C : Code) (T : List ℤ) (s : State) (o : Finish) → Here C (flag (lt_z y x) ∷ T) s o → Here (Code.plain Code.swap n ∷ Code.plain Code.lt n ∷ C) (y ∷ x ∷ T) s o
  swapped n x y C T s o h =
      let r : Here (Code.plain Code.lt n ∷ C) (x ∷ y ∷ T) s o = plain_law μ Code.lt n h (λ k q. q) in
      plain_law μ Code.swap n r (λ k q. q)

  pub operator_law : (n : ℕ) (op : Operator) (x y : ℤ) (C : Code) (T : List ℤ) (s : State) (t : ℕ) (o : Finish) → Fits x → Good p t s
      → After (guard (defined op y) DivisorZero n s then λ _ s₁. fine (apply op x y) s₁) (Valued p t C T o) o → Here (operator_code op n C) (y ∷ x ∷ T) s o
  unfolding EndsIn
  operator_law n Words.add x y C T s t o fx g h = plain_law μ Code.add n (h g (fits-apply Words.add x y fx)) (λ k q. (fx, q))
  operator_law n Words.sub x y C T s t o fx g h = plain_law μ Code.sub n (h g (fits-apply Words.sub x y fx)) (λ k q. (fx, q))
  operator_law n Words.mul x y C T s t o fx g h = plain_law μ Code.mul n (h g (fits-apply Words.mul x y fx)) (λ k q. (fx, q))
  operator_law n Words.div x y C T s t o fx g h = go (is_zero y) refl h
    where
      go : (z : Bool) → is_zero y ≡ z → After (guard (not z) DivisorZero n s then λ _ s₁. fine (apply Words.div x y) s₁) (Valued p t C T o) o → Here (Code.plain Code.div n ∷ C) (y ∷ x ∷ T) s o
      go true e q = ends 1 (fx, rw e q)
      go false e q = plain_law μ Code.div n (q g (fits-apply Words.div x y fx)) (λ k r. (fx, rw e r))
  operator_law n Words.rem x y C T s t o fx g h = go (is_zero y) refl h
    where
      go : (z : Bool) → is_zero y ≡ z → After (guard (not z) DivisorZero n s then λ _ s₁. fine (apply Words.rem x y) s₁) (Valued p t C T o) o → Here (Code.plain Code.rem n ∷ C) (y ∷ x ∷ T) s o
      go true e q = ends 1 (rw e q)
      go false e q = plain_law μ Code.rem n (q g (fits-apply Words.rem x y fx)) (λ k r. rw e r)
  operator_law n Words.eq x y C T s t o fx g h = plain_law μ Code.eq n (h g (fits-apply Words.eq x y fx)) (λ k q. q)
  operator_law n Words.ne x y C T s t o fx g h = plain_law μ Code.eq n (negated n (eq_z x y) C T s o (h g (fits-apply Words.ne x y fx))) (λ k q. q)
  operator_law n Words.lt x y C T s t o fx g h = plain_law μ Code.lt n (h g (fits-apply Words.lt x y fx)) (λ k q. q)
  operator_law n Words.ge x y C T s t o fx g h = plain_law μ Code.lt n (negated n (lt_z x y) C T s o (h g (fits-apply Words.ge x y fx))) (λ k q. q)
  operator_law n Words.gt x y C T s t o fx g h = swapped n x y C T s o (h g (fits-apply Words.gt x y fx))
  operator_law n Words.le x y C T s t o fx g h = swapped n x y (add_not n C) T s o (negated n (lt_z y x) C T s o (h g (fits-apply Words.le x y fx)))

  pub print_law : (n : ℕ) (v : ℤ) (C : Code) (T : List ℤ) (s : State) (t : ℕ) (o : Finish) → Fits v → Good p t s
      → After (guard (has_room (showing μ.board s.readings)) PageFull n s then λ _ s₁. fine v (with_reading s₁ v)) (Valued p t C T o) o → Here (Code.plain Code.printi n ∷ C) (v ∷ T) s o
  unfolding EndsIn
  print_law n v C T s t o fv g h = go (has_room (showing μ.board s.readings)) refl h
    where
      go : (x : Bool) → has_room (showing μ.board s.readings) ≡ x
          → After (guard x PageFull n s then λ _ s₁. fine v (with_reading s₁ v)) (Valued p t C T o) o → Here (Code.plain Code.printi n ∷ C) (v ∷ T) s o
      go true e q =
          plain_law μ Code.printi n (q (record { glen = g.glen; gfit = g.gfit; lens = g.lens; fit = g.fit; turns = g.turns; most = g.most }) fv) (λ k r. rw e r)
      go false e q = ends 1 (rw e q)
