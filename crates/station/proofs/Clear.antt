-- What holds of a pass that is not refused.
use Rattle.std.proofs.Common.{◌≡◌, ℕ, ◌≤◌, Bool, true, false, cond, ◌||◌, ltb, Some, None, Option, refl, sym, arith, ltb-false, eqb-true}
use Rattle.std.proofs.lemmas.Option.{none-some}
use Rattle.answer.specs.declared.Refusal.{Refusal}
use Rattle.rules.specs.Limits.{turns_limit, depth_limit}
use Rattle.machine.specs.declared.Allowance.{Allowance}
use Rattle.agreement.specs.Agreement.{stack_words}
use Rattle.history.specs.Calls.{outside, pass_refusal}

unless-none : (b : Bool) (why : Refusal) (o : Option Refusal) → cond b (Some why) o ≡ None → (b ≡ false) × (o ≡ None)
unless-none true why o e = absurd (none-some _ (sym e))
unless-none false why o e = (refl, e)

passes_none : (b : Bool) (why : Refusal) → cond b None (Some why) ≡ None → b ≡ true
passes_none true why e = refl
passes_none false why e = absurd (none-some _ (sym e))

neither : (a b : Bool) → a || b ≡ false → (a ≡ false) × (b ≡ false)
neither true b e = let z : ◌≡◌ {A = ℕ} 0 1 = cc in absurd (omega arith)
neither false b e = (refl, e)

pub record Clear (main : ℕ) (allowed : Allowance) (stack inputs : ℕ) : Type 0 where
  pub turn : 1 ≤ allowed.turns
  pub turns : allowed.turns ≤ turns_limit
  pub level : 1 ≤ allowed.depth
  pub depth : allowed.depth ≤ depth_limit
  pub room : stack_words allowed.depth ≤ stack
  pub inputs_fit : inputs ≡ main

pub no_refusal : (main : ℕ) (allowed : Allowance) (stack inputs : ℕ) → pass_refusal (Some main) allowed stack inputs ≡ None → Clear main allowed stack inputs
no_refusal main allowed stack inputs e =
    let a = unless-none _ _ _ e in
    let b = unless-none _ _ _ a.1 in
    let c = neither _ _ a.0 in
    let d = neither _ _ c.1 in
    let f = neither _ _ d.1 in
    record {
      turn = ltb-false _ _ c.0;
      turns = ltb-false _ _ d.0;
      level = ltb-false _ _ f.0;
      depth = ltb-false _ _ f.1;
      room = ltb-false _ _ b.0;
      inputs_fit = eqb-true _ _ (passes_none _ _ b.1);
    }

-- an allowance that is not outside the limits is not too deep
pub not_too_deep : (allowed : Allowance) → outside allowed ≡ false → allowed.depth ≤ depth_limit
not_too_deep allowed e =
    let a = neither (ltb allowed.turns 1) (ltb turns_limit allowed.turns || (ltb allowed.depth 1 || ltb depth_limit allowed.depth)) e in
    let b = neither (ltb turns_limit allowed.turns) (ltb allowed.depth 1 || ltb depth_limit allowed.depth) a.1 in
    let c = neither (ltb allowed.depth 1) (ltb depth_limit allowed.depth) b.1 in
    ltb-false _ _ c.1

-- what a pass that is not refused asked of its allowance and its stack, whatever is loaded
pub asked : (main : Option ℕ) (allowed : Allowance) (stack inputs : ℕ) → pass_refusal main allowed stack inputs ≡ None → (outside allowed ≡ false) × (stack_words allowed.depth ≤ stack)
asked None allowed stack inputs e = absurd (none-some _ (sym e))
asked (Some main) allowed stack inputs e =
    let a = unless-none _ _ _ e in
    let b = unless-none _ _ _ a.1 in
    (a.0, ltb-false _ _ b.0)
