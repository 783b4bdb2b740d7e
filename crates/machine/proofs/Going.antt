-- A run, a step at a time: what is still to come leads back to what was asked.
use Rattle.std.proofs.Common.{◌≡◌, sym, subst}
use Rattle.answer.specs.declared.Ending.{Ending}
use Rattle.effects.specs.Effects.{State, goes, halts}
use Rattle.machine.specs.Machine.{Setup, step, Ends, here, later}

-- every end of a run from s is an end of the run from s₀
abbrev pub Leads : Setup → State → State → Type 0
Leads t s₀ s = (c : Ending) (u : State) → Ends t s c u → Ends t s₀ c u

module _ (t : Setup) (s₀ s : State) (l : Leads t s₀ s) where
  pub onward : (s' : State) → step t s ≡ goes s' → Leads t s₀ s'
  onward s' g c u r = l c u (later g r)

  pub ended : (c : Ending) (u : State) → step t s ≡ halts c → u ≡ s → Ends t s₀ c u
  ended c u g q = subst (λ (x : State). Ends t s₀ c x) (sym q) (l c s (here g))
