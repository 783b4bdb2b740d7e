-- The machine never refuses what a pass hands it.
use Rattle.std.proofs.Common.{◌≡◌, ℕ, ◌≤◌, false, List, length, ℤ, None, Ok, Err, Option, Result, sym, ◌∙◌, subst, le-ltb, MatchResult}
use Rattle.std.proofs.lemmas.Option.{none-some}
use Rattle.answer.specs.declared.Answer.{Answer}
use Rattle.answer.specs.declared.Refusal.{Refusal}
use Rattle.board.specs.Meaning.{Means}
use Rattle.rules.specs.Limits.{code_limit, stack_limit}
use Rattle.machine.specs.declared.Allowance.{Allowance}
use Rattle.machine.specs.Execute.{refusal, starting, Ran, Executed}
use Rattle.history.specs.Calls.{outside}

nothing_due : (allowed : Allowance) (code stack used : ℕ) → outside allowed ≡ false → code ≤ code_limit → stack ≤ stack_limit → used ≤ stack → refusal allowed code stack used ≡ None
nothing_due allowed code stack used a c s u =
    let x = le-ltb code_limit code c in
    let y = le-ltb stack_limit stack s in
    let z = le-ltb stack used u in
    simp (a, x, y, z)

by_result : (due : Option Refusal) (r : Result Answer Refusal) (U : Type 0) (R : Answer → Type 0) → due ≡ None → Executed due r U R → MatchResult r R (λ _. ⊥)
by_result due (Ok a) U R e x = x.1
by_result due (Err why) U R e x = none-some _ (sym e ∙ x.0)

-- so the run that it was handed is made
pub run_made : (allowed : Allowance) (code words front out : List ℤ) (used : ℕ) (board board' : Means) (r : Result Answer Refusal) (U : Type 0)
    → outside allowed ≡ false → length code ≤ code_limit → length words ≤ stack_limit → used ≤ length words → words ≡ front
    → Executed (refusal allowed (length code) (length words) used) r U
    (λ a. Ran (record { code = code; deepest = allowed.depth }) (starting words used board allowed.turns) a out board')
    → MatchResult r (λ a. Ran (record { code = code; deepest = allowed.depth }) (starting front used board allowed.turns) a out board') (λ _. ⊥)
run_made allowed code words front out used board board' r U a c s u e x =
    subst (λ (ws : List ℤ). MatchResult r (λ y. Ran (record { code = code; deepest = allowed.depth }) (starting ws used board allowed.turns) y out board') (λ _. ⊥)) e
    (by_result _ r U _ (nothing_due allowed (length code) (length words) used a c s u) x)
