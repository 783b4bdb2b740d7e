-- Every run has exactly one outcome.
use Rattle.std.proofs.Common.{◌≡◌, ℕ, zero, suc, ◌<◌, length, sym, refl, ◌∙◌, subst, arith}
use Rattle.answer.specs.declared.Ending.{Ending}
use Rattle.effects.specs.Effects.{State, Next, goes, halts}
use Rattle.machine.specs.Machine.{Setup, step, Ends, here, later}
use Rattle.machine.specs.Execute.{OneOutcome}
use Rattle.machine.proofs.Falls.{weight, falls}

once : {t : Setup} {s u v : State} {c d : Ending} → Ends t s c u → Ends t s d v → (d ≡ c) × (v ≡ u)
once (here e) (here f) = let q : halts _ ≡ halts _ = sym e ∙ f in (cc, refl)
once (here e) (later f r) = let q = sym e ∙ f in let z : ◌≡◌ {A = ℕ} 0 1 = cc in absurd (omega arith)
once (later e r) (here f) = let q = sym e ∙ f in let z : ◌≡◌ {A = ℕ} 0 1 = cc in absurd (omega arith)
once {t = t} {v = v} {d = d} (later {s' = x} e r) (later {s' = y} f q) =
    let p : y ≡ x = cc in
    once r (subst (λ (z : State). Ends t z d v) p q)

abbrev End : Setup → State → Type 0
End t s = (c : Ending) × (u : State) × Ends t s c u

onward : (t : Setup) (s : State) (x : Next) → step t s ≡ x → ((s' : State) → step t s ≡ goes s' → End t s') → End t s
onward t s (goes s') e k = let r = k s' e in (r.0, r.1, later e r.2)
onward t s (halts c) e k = (c, s, here e)

end_by : (t : Setup) (n : ℕ) (s : State) → weight (length t.code) s.registers < n → End t s
end_by t zero s l = absurd (omega arith)
end_by t (suc n) s l = onward t s (step t s) refl (λ s' e. let k = falls t s s' e in end_by t n s' (omega arith))

pub one_outcome : OneOutcome
one_outcome t s =
    let e = end_by t (suc (weight (length t.code) s.registers)) s (omega arith) in
    (e.0, e.1, e.2, λ d v q. once e.2 q)
