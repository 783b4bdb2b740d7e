-- What a turn, or a turn and one level, comes to, told by the turns left.
use Rattle.std.proofs.Common.{◌≡◌, ℕ, suc, ◌-◌, ◌≤◌, true, false, ltb, ap, arith, le-ltb, lt-ltb}
use Rattle.answer.specs.declared.Ending.TheVariants.{NoTurnLeft, TooDeep}
use Rattle.meaning.specs.Steps.{State, Out, fine, ended, ◌then◌, spend, descend, with_left, with_depth}
use Rattle.symbolic.specs.Symbolic.{Finish, failed}
use Rattle.simulation.proofs.Frames.{After, after_same}

spend-none : (n : ℕ) (s : State) → s.left ≤ 0 → spend n s ≡ ended NoTurnLeft n s
spend-none n s z = rw (le-ltb 0 s.left z)

spend_one : (n l : ℕ) (s : State) → s.left ≡ suc l → spend n s ≡ fine tt (with_left s l)
spend_one n l s e =
    let less : s.left - 1 ≡ l = omega arith in
    rw (lt-ltb 0 s.left (omega arith)) (ap (λ (x : ℕ). fine (tt {0}) (with_left s x)) less)

module _ {B : Type 0} (n : ℕ) where
  pub spent_none : (s : State) (k : State → Out B) (Q : B → State → Type 0) (o : Finish) → s.left ≤ 0 → After (spend n s then λ _ s₁. k s₁) Q o
      → o ≡ failed NoTurnLeft n s.left s.deepest s.readings
  spent_none s k Q o z h = after_same (λ (m : Out (Unit {0})). m then λ _ s₁. k s₁) Q o (spend-none n s z) h

  pub spent_one : (l : ℕ) (s : State) (k : State → Out B) (Q : B → State → Type 0) (o : Finish) → s.left ≡ suc l → After (spend n s then λ _ s₁. k s₁) Q o
      → After (k (with_left s l)) Q o
  spent_one l s k Q o e h = after_same (λ (m : Out (Unit {0})). m then λ _ s₁. k s₁) Q o (spend_one n l s e) h

pub descend-none : (limit d n : ℕ) (s : State) → s.left ≤ 0 → descend limit d n s ≡ ended NoTurnLeft n s
descend-none limit d n s z = rw (le-ltb 0 s.left z)

pub descend_far : (limit d n l : ℕ) (s : State) → s.left ≡ suc l → ltb d limit ≡ false → descend limit d n s ≡ ended TooDeep n s
descend_far limit d n l s e f = rw (lt-ltb 0 s.left (omega arith), f)

pub descend_one : (limit d n l : ℕ) (s : State) → s.left ≡ suc l → ltb d limit ≡ true → descend limit d n s ≡ fine tt (with_depth (with_left s l) (suc d))
descend_one limit d n l s e f =
    let less : s.left - 1 ≡ l = omega arith in
    rw (lt-ltb 0 s.left (omega arith), f) (ap (λ (x : ℕ). fine (tt {0}) (with_depth (with_left s x) (suc d))) less)
