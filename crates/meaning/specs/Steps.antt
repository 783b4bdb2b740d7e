-- Where a run stands, and how its parts follow each other.
use Rattle.std.specs.Prelude.{ℕ, suc, ◌-◌, max, Bool, true, false, List, [], ◌∷◌, ◌++◌, ℤ, nat_lt}
use Rattle.answer.specs.declared.Ending.{Ending}
use Rattle.answer.specs.declared.Ending.TheVariants.{NoTurnLeft, TooDeep}

-- where a run stands: the locals are the function's that runs, `left` are the turns left, `deepest` is the greatest depth entered
pub record State : Type 0 where
  pub globals : List ℤ
  pub locals : List ℤ
  pub readings : List ℤ
  pub left : ℕ
  pub deepest : ℕ

abbrev pub with_globals : State → List ℤ → State
with_globals s g = record { globals = g; locals = s.locals; readings = s.readings; left = s.left; deepest = s.deepest }

abbrev pub with_locals : State → List ℤ → State
with_locals s l = record { globals = s.globals; locals = l; readings = s.readings; left = s.left; deepest = s.deepest }

abbrev pub with_reading : State → ℤ → State
with_reading s v = record { globals = s.globals; locals = s.locals; readings = s.readings ++ (v ∷ []); left = s.left; deepest = s.deepest }

abbrev pub with_left : State → ℕ → State
with_left s k = record { globals = s.globals; locals = s.locals; readings = s.readings; left = k; deepest = s.deepest }

abbrev pub with_depth : State → ℕ → State
with_depth s d = record { globals = s.globals; locals = s.locals; readings = s.readings; left = s.left; deepest = max d s.deepest }

-- what a part comes to: it goes on with a result, or the run ended at a node
pub data Out (A : Type 0) : Type 0 where
  fine : A → State → Out A
  ended : Ending → ℕ → State → Out A

-- one part, then another that is told the result
abbrev pub ◌then◌ : {A B : Type 0} → Out A → (A → State → Out B) → Out B
◌then◌ (fine a s) next = next a s
◌then◌ (ended e n s) next = ended e n s

infixl 20 ◌then◌
-- the run goes on only if a test holds
abbrev pub guard : Bool → Ending → ℕ → State → Out (Unit {0})
guard true e n s = fine tt s
guard false e n s = ended e n s

-- one way or the other
abbrev pub branch : {A : Type 0} → Bool → (State → Out A) → (State → Out A) → State → Out A
branch true f g s = f s
branch false f g s = g s

-- one turn is spent, at node n
abbrev pub spend : ℕ → State → Out (Unit {0})
spend n s = guard (nat_lt 0 s.left) NoTurnLeft n s then λ _ s₁. fine tt (with_left s₁ (s₁.left - 1))

-- the call n goes from depth d one deeper, for a turn: turns are tested before depth, and a call that fails either spends nothing
abbrev pub descend : ℕ → ℕ → ℕ → State → Out (Unit {0})
descend limit d n s =
    guard (nat_lt 0 s.left) NoTurnLeft n s then λ _ s₁.
    guard (nat_lt d limit) TooDeep n s₁ then λ _ s₂.
    fine tt (with_depth (with_left s₂ (s₂.left - 1)) (suc d))

-- how the call n of function f goes on once its arguments are worked out
abbrev pub Enter : Type 0
Enter = ℕ → ℕ → List ℤ → State → Out ℤ

-- how a statement ends: it runs off its end, returns a value, or its call n of f replaces the function
pub data Flow : Type 0 where
  falls : Flow
  returns : ℤ → Flow
  replaces : ℕ → ℕ → List ℤ → Flow

-- what follows a statement that runs off its end
abbrev pub next : (State → Out Flow) → Flow → State → Out Flow
next follows falls s = follows s
next follows (returns v) s = fine (returns v) s
next follows (replaces n f vs) s = fine (replaces n f vs) s

-- a call leaves its caller's locals
abbrev pub restoring : (State → Out ℤ) → State → Out ℤ
restoring callee s = callee s then λ v s₁. fine v (with_locals s₁ s.locals)
