-- Symbolic code that fails does so for a cause of the script's own: a divisor, an index, a page, turns or depth.
use Rattle.std.proofs.Common.{◌≡◌, ℕ, zero, suc, ◌-◌, ◌≤◌, Bool, true, false, List, [], ◌∷◌, ℤ, pos, negsuc, sym, subst, arith}
use Rattle.answer.specs.Numbers.{ending_number}
use Rattle.answer.specs.declared.Ending.{Ending}
use Rattle.answer.specs.declared.Ending.TheVariants.{TooDeep}
use Rattle.board.specs.Meaning.{Means}
use Rattle.scheme.specs.Code.{Code, Plain, Target}
use Rattle.scheme.specs.Code
use Rattle.symbolic.specs.Symbolic.{Rest, paid, Finish, finished, failed, if, pop1, pop2, EndsIn, plainly, loads, goes, called, replaced, return_to}

abbrev pub Own : Finish → Type 0
Own (finished v l d out T) = Unit {0}
Own (failed e m l d out) = (1 ≤ ending_number e) × (ending_number e ≤ 5)

by : {e : Ending} {m l d : ℕ} {out : List ℤ} (o : Finish) → (1 ≤ ending_number e) × (ending_number e ≤ 5) → o ≡ failed e m l d out → Own o
by o h q = subst (λ (x : Finish). Own x) (sym q) h

either : {A B R : Type 0} (b : Bool) → if b A B → (A → R) → (B → R) → R
either true h f g = f h
either false h f g = g h

one : {R : Type 0} (S : List ℤ) (f : ℤ → List ℤ → Type 0) → ((x : ℤ) (T : List ℤ) → f x T → R) → pop1 S f → R
one [] f k h = absurd h
one (x ∷ T) f k h = k x T h

two : {R : Type 0} (S : List ℤ) (f : ℤ → ℤ → List ℤ → Type 0) → ((x y : ℤ) (T : List ℤ) → f x y T → R) → pop2 S f → R
two [] f k h = absurd h
two (y ∷ []) f k h = absurd h
two (y ∷ x ∷ T) f k h = k x y T h

module _ (P : Code) (cap limit : ℕ) (board : Means) (o : Finish) where
  own_loads : (a : ℤ) (m : ℕ) (T : List ℤ) (ρ : Rest) (K : List ℤ → Type 0) → ((U : List ℤ) → K U → Own o) → loads P cap limit board a m T ρ o K → Own o
  own_loads (pos k) m T ρ K f h = f _ h.1
  own_loads (negsuc k) m T ρ K f h = by o (omega arith, omega arith) h

  own_plainly : (p : Plain) (m : ℕ) (S : List ℤ) (ρ : Rest) (K : List ℤ → Rest → Type 0) → ((T : List ℤ) (ρ' : Rest) → K T ρ' → Own o)
      → plainly P cap limit board p m S ρ o K → Own o
  own_plainly Code.add m S ρ K f h = two S _ (λ x y T q. f _ _ q.1) h
  own_plainly Code.sub m S ρ K f h = two S _ (λ x y T q. f _ _ q.1) h
  own_plainly Code.mul m S ρ K f h = two S _ (λ x y T q. f _ _ q.1) h
  own_plainly Code.div m S ρ K f h = two S _ (λ x y T q. either _ q.1 (by o (omega arith, omega arith)) (f _ _)) h
  own_plainly Code.rem m S ρ K f h = two S _ (λ x y T q. either _ q (by o (omega arith, omega arith)) (f _ _)) h
  own_plainly Code.eq m S ρ K f h = two S _ (λ x y T q. f _ _ q) h
  own_plainly Code.lt m S ρ K f h = two S _ (λ x y T q. f _ _ q) h
  own_plainly Code.not m S ρ K f h = one S _ (λ x T q. f _ _ q) h
  own_plainly Code.dup m S ρ K f h = one S _ (λ x T q. f _ _ q.1) h
  own_plainly Code.swap m S ρ K f h = two S _ (λ x y T q. f _ _ q) h
  own_plainly Code.ldi m S ρ K f h = one S _ (λ a T q. own_loads a m T ρ (λ U. K U ρ) (λ U r. f U ρ r) q) h
  own_plainly Code.sti m S ρ K f h = two S _ (λ a v T q. f _ _ q.3) h
  own_plainly Code.getbp m S ρ K f h = f _ _ h.1
  own_plainly Code.printi m S ρ K f h = one S _ (λ x T q. either _ q (f _ _) (by o (omega arith, omega arith))) h

  -- nothing left to pay with, or a turn paid
  paying : (l : ℕ) (A : Type 0) (B : ℕ → Type 0) → (A → Own o) → ((k : ℕ) → B k → Own o) → elim l as (λ _. Type 0) [ zero ↦ A | suc k ↦ B k ] → Own o
  paying zero A B f g h = f h
  paying (suc k) A B f g h = g k h

  own_goes : (t : Target) (ρ : Rest) (K : Code → Rest → Type 0) → ((D : Code) (ρ' : Rest) → K D ρ' → Own o) → goes P cap limit board t ρ o K → Own o
  own_goes (Code.behind n) ρ K f h = f _ _ h.3
  own_goes (Code.loop w) ρ K f h = paying ρ.left _ _ (by o (omega arith, omega arith)) (λ k q. f _ _ q.2) h

  own_entered : (b : Bool) (X : Type 0) (Y Z : Code → Type 0) (n l d : ℕ) (out : List ℤ) → ((D : Code) → Z D → Own o)
      → if b (X × (D : Code) × Y D × Z D) (o ≡ failed TooDeep n l d out) → Own o
  own_entered true X Y Z n l d out g h = g h.1 h.3
  own_entered false X Y Z n l d out g h = by o (omega arith, omega arith) h

  own_called : (m f n : ℕ) (C : Code) (S : List ℤ) (ρ : Rest) (K : Code → List ℤ → Rest → Type 0) → ((D : Code) (T : List ℤ) (ρ' : Rest) → K D T ρ' → Own o)
      → called P cap limit board m f n C S ρ o K → Own o
  own_called m f n C S ρ K g h =
      paying ρ.left _ _ (by o (omega arith, omega arith)) (λ k q. own_entered _ _ _ _ _ _ _ _ (λ D z. g _ _ _ z) q) h.4

  own_replaced : (m j f n : ℕ) (S : List ℤ) (ρ : Rest) (K : Code → List ℤ → Rest → Type 0) → ((D : Code) (T : List ℤ) (ρ' : Rest) → K D T ρ' → Own o)
      → replaced P cap limit board m j f n S ρ o K → Own o
  own_replaced m j f n S ρ K g h = paying ρ.left _ _ (by o (omega arith, omega arith)) (λ k q. g _ _ _ q.2) h.7

  back : (Ks : List Code) (f : Code → List Code → Type 0) → ((C : Code) (Ls : List Code) → f C Ls → Own o) → return_to Ks f → Own o
  back [] f g h = absurd h
  back (C ∷ Ls) f g h = g C Ls h

  pub own : (k : ℕ) (C : Code) (S : List ℤ) (ρ : Rest) → EndsIn P cap limit board k C S ρ o → Own o
  unfolding EndsIn
  own zero C S ρ h = absurd h
  own (suc k) [] S ρ h = absurd h
  own (suc k) (Code.csti x m ∷ C) S ρ h = own k C _ ρ h.1
  own (suc k) (Code.plain p m ∷ C) S ρ h = own_plainly p m S ρ (λ T ρ'. EndsIn P cap limit board k C T ρ' o) (λ T ρ' q. own k C T ρ' q) h
  own (suc k) (Code.pop m ∷ C) S ρ h = one S _ (λ x T q. own k C T ρ q) h
  own (suc k) (Code.goto t m ∷ C) S ρ h = own_goes t ρ (λ D ρ'. EndsIn P cap limit board k D S ρ' o) (λ D ρ' q. own k D S ρ' q) h
  own (suc k) (Code.ifzero t m ∷ C) S ρ h =
      one S _ (λ x T q. either _ q (own_goes t ρ (λ D ρ'. EndsIn P cap limit board k D T ρ' o) (λ D ρ' r. own k D T ρ' r)) (own k C T ρ)) h
  own (suc k) (Code.ifnzro t m ∷ C) S ρ h =
      one S _ (λ x T q. either _ q (own k C T ρ) (own_goes t ρ (λ D ρ'. EndsIn P cap limit board k D T ρ' o) (λ D ρ' r. own k D T ρ' r))) h
  own (suc k) (Code.call m f n ∷ C) S ρ h = own_called m f n C S ρ (λ D T ρ'. EndsIn P cap limit board k D T ρ' o) (λ D T ρ' q. own k D T ρ' q) h
  own (suc k) (Code.tcall m j f n ∷ C) S ρ h = own_replaced m j f n S ρ (λ D T ρ'. EndsIn P cap limit board k D T ρ' o) (λ D T ρ' q. own k D T ρ' q) h
  own (suc k) (Code.ret j m ∷ C) S ρ h = back ρ.back _ (λ D Ls q. own k D _ _ q.1) h.9
  own (suc k) (Code.ldargs ∷ C) S ρ h = own k C _ ρ h.1
  own (suc k) (Code.stop ∷ C) S ρ h = one S _ (λ x T q. subst (λ (y : Finish). Own y) (sym q) tt) h
  own (suc k) (Code.label ∷ C) S ρ h = own k C S ρ h
  own (suc k) (Code.loop_at w ∷ C) S ρ h = own k C S ρ h
  own (suc k) (Code.entry f ∷ C) S ρ h = own k C S ρ h
