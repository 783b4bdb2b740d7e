-- A machine for symbolic code: it runs the code that follows item by item, whether or not that stands where it will in the end; only jumps,
-- calls and returns go to the whole code P. What an instruction rests on is asked of whoever runs it: room, the shape of the stack, words that fit.
use Rattle.std.specs.Prelude.{ℕ, zero, suc, ◌+◌, ◌-◌, ◌≤◌, ◌<◌, max, ◌≡◌, Bool, true, false, List, [], ◌∷◌, ◌++◌, length, eqb, ltb, ℤ, pos, negsuc}
use Rattle.std.specs.Int.{w32}
use Rattle.std.proofs.Common.{SFits}
use Rattle.answer.specs.declared.Ending.{Ending}
use Rattle.answer.specs.declared.Ending.TheVariants.{DivisorZero, IndexOutside, PageFull, NoTurnLeft, TooDeep}
use Rattle.board.specs.Meaning.{Means, has_room}
use Rattle.meaning.specs.Words.{flag, is_zero, eq_z, apply}
use Rattle.meaning.specs.Words
use Rattle.meaning.specs.Meaning.{showing}
use Rattle.scheme.specs.Code.{Code, Plain, Target, size}
use Rattle.scheme.specs.Code
pub use Rattle.scheme.specs.Laws.{Suffix, same, more}

-- a word that fits 32 bits
abbrev pub Fits : ℤ → Type 0
Fits z = SFits w32 z

-- how a run ends: with a value and the words left under it; or with an ending at a node. Beside these the turns left, the greatest depth and the readings
pub data Finish : Type 0 where
  finished : ℤ → ℕ → ℕ → List ℤ → List ℤ → Finish
  failed : Ending → ℕ → ℕ → ℕ → List ℤ → Finish

-- what a run carries besides the words: `back` are the ends of P to which calls return
pub record Rest : Type 0 where
  pub base : ℕ
  pub left : ℕ
  pub depth : ℕ
  pub deep : ℕ
  pub out : List ℤ
  pub back : List Code

abbrev pub paid : Rest → ℕ → Rest
paid ρ l = record { base = ρ.base; left = l; depth = ρ.depth; deep = ρ.deep; out = ρ.out; back = ρ.back }

abbrev pub if : Bool → Type 0 → Type 0 → Type 0
if true A B = A
if false A B = B

abbrev pub pop1 : List ℤ → (ℤ → List ℤ → Type 0) → Type 0
pop1 [] f = ⊥
pop1 (x ∷ S) f = f x S

abbrev pub pop2 : List ℤ → (ℤ → ℤ → List ℤ → Type 0) → Type 0
pop2 [] f = ⊥
pop2 (y ∷ []) f = ⊥
pop2 (y ∷ x ∷ S) f = f x y S

-- the words vs pushed one after the other
abbrev pub onto : List ℤ → List ℤ → List ℤ
onto [] S = S
onto (v ∷ vs) S = onto vs (v ∷ S)

-- the word at an address, which counts from the bottom, and a new word there
unfoldable pub fetch : List ℤ → ℕ → ℤ
fetch [] a = pos 0
fetch (x ∷ S) a = elim (eqb a (length S)) [ true ↦ x | false ↦ fetch S a ]

unfoldable pub store : List ℤ → ℕ → ℤ → List ℤ
store [] a v = []
store (x ∷ S) a v = elim (eqb a (length S)) [ true ↦ v ∷ S | false ↦ x ∷ store S a v ]

abbrev pub return_to : List Code → (Code → List Code → Type 0) → Type 0
return_to [] f = ⊥
return_to (C ∷ K) f = f C K

module _ (P : Code) (cap limit : ℕ) (board : Means) where
  abbrev pub loads : ℤ → ℕ → List ℤ → Rest → Finish → (List ℤ → Type 0) → Type 0
  loads (pos k) m T ρ o K = (k < length T) × K (fetch T k ∷ T)
  loads (negsuc k) m T ρ o K = o ≡ failed IndexOutside m ρ.left ρ.deep ρ.out

  abbrev pub plainly : Plain → ℕ → List ℤ → Rest → Finish → (List ℤ → Rest → Type 0) → Type 0
  plainly Code.add m S ρ o K = pop2 S (λ x y T. Fits x × K (apply Words.add x y ∷ T) ρ)
  plainly Code.sub m S ρ o K = pop2 S (λ x y T. Fits x × K (apply Words.sub x y ∷ T) ρ)
  plainly Code.mul m S ρ o K = pop2 S (λ x y T. Fits x × K (apply Words.mul x y ∷ T) ρ)
  plainly Code.div m S ρ o K = pop2 S (λ x y T. Fits x × if (is_zero y) (o ≡ failed DivisorZero m ρ.left ρ.deep ρ.out) (K (apply Words.div x y ∷ T) ρ))
  plainly Code.rem m S ρ o K = pop2 S (λ x y T. if (is_zero y) (o ≡ failed DivisorZero m ρ.left ρ.deep ρ.out) (K (apply Words.rem x y ∷ T) ρ))
  plainly Code.eq m S ρ o K = pop2 S (λ x y T. K (flag (eq_z x y) ∷ T) ρ)
  plainly Code.lt m S ρ o K = pop2 S (λ x y T. K (apply Words.lt x y ∷ T) ρ)
  plainly Code.not m S ρ o K = pop1 S (λ x T. K (flag (is_zero x) ∷ T) ρ)
  plainly Code.dup m S ρ o K = pop1 S (λ x T. (length S < cap) × K (x ∷ x ∷ T) ρ)
  plainly Code.swap m S ρ o K = pop2 S (λ x y T. K (x ∷ y ∷ T) ρ)
  plainly Code.ldi m S ρ o K = pop1 S (λ a T. loads a m T ρ o (λ U. K U ρ))
  plainly Code.sti m S ρ o K = pop2 S (λ a v T. (k : ℕ) × (a ≡ pos k) × (k < length T) × K (v ∷ store T k v) ρ)
  plainly Code.getbp m S ρ o K = (length S < cap) × K (pos ρ.base ∷ S) ρ
  plainly Code.printi m S ρ o K = pop1 S (λ x T. if (has_room (showing board ρ.out))
      (K (x ∷ T) (record { base = ρ.base; left = ρ.left; depth = ρ.depth; deep = ρ.deep; out = ρ.out ++ x ∷ []; back = ρ.back }))
      (o ≡ failed PageFull m ρ.left ρ.deep ρ.out))

  abbrev pub goes : Target → Rest → Finish → (Code → Rest → Type 0) → Type 0
  goes (Code.behind n) ρ o K = (D : Code) × Suffix D P × (size D ≡ n) × K D ρ
  goes (Code.loop w) ρ o K =
      elim ρ.left [ zero ↦ o ≡ failed NoTurnLeft w ρ.left ρ.deep ρ.out | suc l ↦ (D : Code) × Suffix (Code.loop_at w ∷ D) P × K D (paid ρ l) ]

  abbrev pub called : ℕ → ℕ → ℕ → Code → List ℤ → Rest → Finish → (Code → List ℤ → Rest → Type 0) → Type 0
  called m f n C S ρ o K =
      (vs : List ℤ) × (T : List ℤ) × (S ≡ onto vs T) × (length vs ≡ m) × elim ρ.left [
        | zero ↦ o ≡ failed NoTurnLeft n ρ.left ρ.deep ρ.out
        | suc l ↦ if (ltb ρ.depth limit)
            ((length (onto vs T) + 2 ≤ cap) × (D : Code) × Suffix (Code.entry f ∷ D) P
            × K D (onto vs (pos ρ.base ∷ pos (size P - size C) ∷ T))
            (record { base = suc (suc (length T)); left = l; depth = suc ρ.depth; deep = max (suc ρ.depth) ρ.deep; out = ρ.out; back = C ∷ ρ.back }))
            (o ≡ failed TooDeep n ρ.left ρ.deep ρ.out)
      ]

  abbrev pub replaced : ℕ → ℕ → ℕ → ℕ → List ℤ → Rest → Finish → (Code → List ℤ → Rest → Type 0) → Type 0
  replaced m k f n S ρ o K =
      (vs : List ℤ) × (L : List ℤ) × (T : List ℤ) × (S ≡ onto vs (onto L T)) × (length vs ≡ m) × (length L ≡ k) × (2 ≤ length T) × elim ρ.left [
        | zero ↦ o ≡ failed NoTurnLeft n ρ.left ρ.deep ρ.out
        | suc l ↦ (D : Code) × Suffix (Code.entry f ∷ D) P × K D (onto vs T) (paid ρ l)
      ]

  abbrev pub returned : ℕ → List ℤ → Rest → (Code → List ℤ → Rest → Type 0) → Type 0
  returned k S ρ K =
      (v : ℤ) × (L : List ℤ) × (b : ℕ) × (r : ℕ) × (T : List ℤ) × (S ≡ v ∷ onto L (pos b ∷ pos r ∷ T)) × (length L ≡ k)
      × (d : ℕ) × (ρ.depth ≡ suc d) × return_to ρ.back (λ C Ks. (r ≡ size P - size C) × K C (v ∷ T) (record { base = b; left = ρ.left; depth = d; deep = ρ.deep; out = ρ.out; back = Ks }))

  -- code C, run from the words S, ends so within k steps
  unfoldable pub EndsIn : ℕ → Code → List ℤ → Rest → Finish → Type 0
  EndsIn zero C S ρ o = ⊥
  EndsIn (suc k) [] S ρ o = ⊥
  EndsIn (suc k) (Code.csti i m ∷ C) S ρ o = (length S < cap) × EndsIn k C (i ∷ S) ρ o
  EndsIn (suc k) (Code.plain p m ∷ C) S ρ o = plainly p m S ρ o (λ T ρ'. EndsIn k C T ρ' o)
  EndsIn (suc k) (Code.pop m ∷ C) S ρ o = pop1 S (λ x T. EndsIn k C T ρ o)
  EndsIn (suc k) (Code.goto t m ∷ C) S ρ o = goes t ρ o (λ D ρ'. EndsIn k D S ρ' o)
  EndsIn (suc k) (Code.ifzero t m ∷ C) S ρ o =
      pop1 S (λ x T. if (is_zero x) (goes t ρ o (λ D ρ'. EndsIn k D T ρ' o)) (EndsIn k C T ρ o))
  EndsIn (suc k) (Code.ifnzro t m ∷ C) S ρ o =
      pop1 S (λ x T. if (is_zero x) (EndsIn k C T ρ o) (goes t ρ o (λ D ρ'. EndsIn k D T ρ' o)))
  EndsIn (suc k) (Code.call m f n ∷ C) S ρ o = called m f n C S ρ o (λ D T ρ'. EndsIn k D T ρ' o)
  EndsIn (suc k) (Code.tcall m j f n ∷ C) S ρ o = replaced m j f n S ρ o (λ D T ρ'. EndsIn k D T ρ' o)
  EndsIn (suc k) (Code.ret j m ∷ C) S ρ o = returned j S ρ (λ D T ρ'. EndsIn k D T ρ' o)
  EndsIn (suc k) (Code.ldargs ∷ C) S ρ o = (length S + length board.inputs ≤ cap) × EndsIn k C (onto board.inputs S) ρ o
  EndsIn (suc k) (Code.stop ∷ C) S ρ o = pop1 S (λ x T. o ≡ finished x ρ.left ρ.deep ρ.out T)
  EndsIn (suc k) (Code.label ∷ C) S ρ o = EndsIn k C S ρ o
  EndsIn (suc k) (Code.loop_at w ∷ C) S ρ o = EndsIn k C S ρ o
  EndsIn (suc k) (Code.entry f ∷ C) S ρ o = EndsIn k C S ρ o

  pub data Ends (C : Code) (S : List ℤ) (ρ : Rest) (o : Finish) : Type 0 where
    ends : (k : ℕ) → EndsIn k C S ρ o → Ends C S ρ o

  pub data Goes (t : Target) (S : List ℤ) (ρ : Rest) (o : Finish) : Type 0 where
    leads : (k : ℕ) → goes t ρ o (λ D ρ'. EndsIn k D S ρ' o) → Goes t S ρ o
