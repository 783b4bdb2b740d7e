-- The laws of allowances hold of the machine, since its outcome is the script's, and is the only one.
use Rattle.std.proofs.Common.{◌≡◌, ℕ, ◌≤◌, List, ◌++◌, length, ℤ, sym, refl, ap, ◌∙◌, subst}
use Rattle.answer.specs.declared.Answer.{Answer}
use Rattle.answer.specs.declared.Ending.{Ending}
use Rattle.board.specs.Meaning.{Means}
use Rattle.effects.specs.Effects.{State}
use Rattle.machine.specs.Machine.{Setup, Ends}
use Rattle.machine.specs.Execute.{starting}
use Rattle.machine.proofs.Outcome.{one_outcome}
use Rattle.meaning.specs.Tree.{Script}
use Rattle.meaning.specs.Tables.{script_of}
use Rattle.meaning.specs.Meaning.{showing}
use Rattle.meaning.specs.Run.{Record, Starved, Free, run}
use Rattle.meaning.proofs.Runs.{free_within, free_beyond, first_part}
use Rattle.scheme.specs.Written.{written}
use Rattle.agreement.specs.Agreement.{Agreed}
use Rattle.agreement.specs.Carried.{Carries, Carried}
use Rattle.agreement.proofs.Joined.{agreement}

-- two outcomes of one run are one
alike : (t : Setup) (s : State) (d e : Ending) (v u : State) → Ends t s d v → Ends t s e u → (d ≡ e) × (v ≡ u)
alike t s d e v u p q =
    let o = one_outcome t s in
    let a = o.3 d v p in
    let b = o.3 e u q in
    (a.0 ∙ sym b.0, a.1 ∙ sym b.1)

module _ (script : Script) (globals : List ℤ) (board : Means) (stack : List ℤ) (turns depth turns' depth' : ℕ) where
  abbrev r : Record
  r = run script globals board turns depth

  abbrev r' : Record
  r' = run script globals board turns' depth'

  abbrev From : ℕ → State
  From t = starting stack (length globals) board t

  free : (Starved r.answer.ending → ⊥) → Free script globals board r
  free fed = record { turns = turns; depth = depth; runs = refl; fed = fed }

  carries : (A : Agreed (written script) board depth (From turns) r) (B : Agreed (written script) board depth' (From turns') r')
      → Carries script turns depth turns' depth' r.answer.ending r'.answer.ending A.final B.final
  carries A B =
      let a = A.answer in
      let t = ap (λ (x : Answer). x.turns) a in
      let d = ap (λ (x : Answer). x.depth) a in
      record {
        same = λ fed lt ld.
            let e = free_within script globals board r (free fed) turns' depth' (subst (λ (n : ℕ). n ≤ turns') t lt, subst (λ (n : ℕ). n ≤ depth') d ld) in
            (B.answer ∙ ap (λ (x : Record). x.answer) e ∙ sym a, B.board_left ∙ ap (λ (x : Record). showing board x.readings) e ∙ sym A.board_left);
        starves = λ fed no.
            free_beyond script globals board r (free fed) turns' depth'
            (λ c. no (subst (λ (n : ℕ). n ≤ turns') (sym t) c.0, subst (λ (n : ℕ). n ≤ depth') (sym d) c.1));
        goes_on = λ lt ld.
            let f = first_part script globals board turns depth turns' depth' lt ld in (
              f.0,
              ap (λ (m : Means). m.readings) B.board_left ∙ f.1 ∙ ap (λ (rs : List ℤ). rs ++ f.0) (sym (ap (λ (m : Means). m.readings) A.board_left)),
            );
      }

pub carried : Carried
carried functions lengths nodes globals board stack turns depth turns' depth' e e' u u' h a a' p p' =
    let script = script_of functions lengths nodes in
    let A = agreement functions lengths nodes globals board stack turns depth h a in
    let B = agreement functions lengths nodes globals board stack turns' depth' h a' in
    let q = alike _ _ _ _ _ _ A.ends p in
    let q' = alike _ _ _ _ _ _ B.ends p' in
    let k = carries script globals board stack turns depth turns' depth' A B in
    let k₁ = subst (λ (c : Ending). Carries script turns depth turns' depth' c (run script globals board turns' depth').answer.ending A.final B.final) q.0 k in
    let k₂ = subst (λ (c : Ending). Carries script turns depth turns' depth' e c A.final B.final) q'.0 k₁ in
    let k₃ = subst (λ (v : State). Carries script turns depth turns' depth' e e' v B.final) q.1 k₂ in
    subst (λ (v : State). Carries script turns depth turns' depth' e e' u v) q'.1 k₃
