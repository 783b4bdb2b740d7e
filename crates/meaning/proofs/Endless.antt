-- A while that goes on for ever is starved by every allowance.
use Rattle.std.proofs.Common.{ℕ, zero, suc, ◌-◌, Bool, true, false, ltb, List, ℤ, pos, refl, inl, inr}
use Rattle.answer.specs.Numbers.{no_place}
use Rattle.answer.specs.declared.Ending.TheVariants.{NoTurnLeft, TooDeep}
use Rattle.board.specs.Meaning.{Means}
use Rattle.meaning.specs.Tables.{parts_after}
use Rattle.meaning.specs.Steps.{State, Out, fine, ended, ◌then◌, guard, falls, with_left, with_depth}
use Rattle.meaning.specs.Meaning.{eval, loop, exec, body}
use Rattle.meaning.specs.Run.{outcome, starting}
use Rattle.meaning.specs.Examples.{endless, Endless}
use Rattle.meaning.proofs.Onward.{Short}
use Rattle.meaning.proofs.Runs.{short_of}

short_then : {A B : Type 0} (m : Out A) (g : A → State → Out B) → Short m → Short (m then g)
short_then (fine a s) g h = absurd h
short_then (ended e n s) g h = h

spins : (j n : ℕ) (s : State) → Short (loop j n (λ s₁. fine (pos 1) s₁) (λ s₁. fine falls s₁) s)
unfolding loop
spins zero n s = inl refl
spins (suc j) n s = go (ltb 0 s.left) (λ t. spins j n t)
  where
    go : (t : Bool) → ((u : State) → Short (loop j n (λ s₁. fine (pos 1) s₁) (λ s₁. fine falls s₁) u))
        → Short (guard t NoTurnLeft n s then (λ _ s₁. fine (tt {0}) (with_left s₁ (s₁.left - 1))) then λ _ s₁. loop j n (λ s₂. fine (pos 1) s₂) (λ s₂. fine falls s₂) s₁)
    go true rest = rest (with_left s (s.left - 1))
    go false rest = inl refl

main_spins : (board : Means) (limit j : ℕ) (vs : List ℤ) (s : State) → Short (body endless board limit j 1 0 vs s)
unfolding body exec eval parts_after
main_spins board limit zero vs s = inl refl
main_spins board limit (suc j) vs s = short_then _ _ (spins _ 2 _)

short_run : (globals : List ℤ) (board : Means) (t d : ℕ) → Short (outcome endless globals board t d)
unfolding outcome
short_run globals board t d = go (ltb 0 t) (ltb 0 d)
  where
    go : (x y : Bool) → Short (guard x NoTurnLeft no_place (starting globals board t) then (λ _ s₁. guard y TooDeep no_place s₁ then λ _ s₂. fine (tt {0}) (with_depth (with_left s₂ (s₂.left - 1)) 1))
        then λ _ s₁. body endless board d t 1 0 board.inputs s₁)
    go false y = inl refl
    go true false = inr refl
    go true true = main_spins board d t board.inputs _

pub never_free : Endless
never_free globals board r free = free.fed (rw free.runs at (short_of free.turns (outcome endless globals board free.turns free.depth) (short_run globals board free.turns free.depth)))
