-- Where a part of a script comes to from a state: turns go down, depth and readings go up.
use Rattle.std.proofs.Common.{◌≡◌, ℕ, ◌≤◌, Bool, true, false, List, [], ◌∷◌, ◌++◌, ℤ, sym, refl, ap, ◌∙◌, append_assoc, append-nil, arith}
use Rattle.answer.specs.declared.Ending.TheVariants.{PageFull}
use Rattle.meaning.specs.Steps.{State, Out, fine, ended, ◌then◌, guard, with_locals, with_reading}
use Rattle.meaning.specs.Run.{Starved}

-- the state that a part leaves
abbrev pub final : {A : Type 0} → Out A → State
final (fine a s) = s
final (ended e n s) = s

-- the run has ended with turns or depth
abbrev pub Short : {A : Type 0} → Out A → Type 0
Short (fine a s) = ⊥
Short (ended e n s) = Starved e

-- a state that a run comes to: turns go down, depth and readings go up, depth as far as allowed
pub record Onward (limit : ℕ) (s t : State) : Type 0 where
  pub turns : t.left ≤ s.left
  pub depth : s.deepest ≤ t.deepest
  pub allowed : s.deepest ≤ limit → t.deepest ≤ limit
  pub later : List ℤ
  pub readings : t.readings ≡ s.readings ++ later

-- nothing is printed on the way
pub quietly : {limit : ℕ} {s t : State} → t.left ≤ s.left → s.deepest ≤ t.deepest → (s.deepest ≤ limit → t.deepest ≤ limit) → t.readings ≡ s.readings → Onward limit s t
quietly {limit} {s} down up within same = record { turns = down; depth = up; allowed = within; later = []; readings = same ∙ sym (append-nil s.readings) }

pub stay : {limit : ℕ} {s : State} → Onward limit s s
stay = quietly (omega arith) (omega arith) (λ h. h) refl

pub on : {limit : ℕ} {s t u : State} → Onward limit s t → Onward limit t u → Onward limit s u
on {limit} {s} {t} {u} p q =
    let a = p.turns in
    let b = q.turns in
    let c = p.depth in
    let d = q.depth in
    record {
      turns = omega arith;
      depth = omega arith;
      allowed = λ h. q.allowed (p.allowed h);
      later = p.later ++ q.later;
      readings = q.readings ∙ ap (λ (rs : List ℤ). rs ++ q.later) p.readings ∙ append_assoc s.readings p.later q.later;
    }

abbrev pub Grows : {A : Type 0} → ℕ → (State → Out A) → Type 0
Grows limit f = (s : State) → Onward limit s (final (f s))

pub grows_then : {A B : Type 0} (limit : ℕ) (s : State) (m : Out A) (g : A → State → Out B) → Onward limit s (final m) → ((a : A) → Grows limit (g a)) → Onward limit s (final (m then g))
grows_then limit s (fine a t) g h grow = on h (grow a t)
grows_then limit s (ended e n t) g h grow = h

pub grows_print : (limit n : ℕ) (v : ℤ) (s : State) (t : Bool) → Onward limit s (final (guard t PageFull n s then λ _ s₁. fine v (with_reading s₁ v)))
grows_print limit n v s true = record { turns = omega arith; depth = omega arith; allowed = λ q. q; later = v ∷ []; readings = refl }
grows_print limit n v s false = stay

pub grows_restoring : (limit : ℕ) (s : State) (m : Out ℤ) (L : List ℤ) → Onward limit s (final m) → Onward limit s (final (m then λ v t. fine v (with_locals t L)))
grows_restoring limit s (fine v t) L h = record { turns = h.turns; depth = h.depth; allowed = h.allowed; later = h.later; readings = h.readings }
grows_restoring limit s (ended e n t) L h = h
