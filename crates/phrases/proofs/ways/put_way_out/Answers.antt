use Rattle.std.proofs.Common.{◌≡◌, ℕ, ap, ◌∙◌, subst, arith, w32, SFits, rules}
use Rattle.std.proofs.lemmas.Int.{to_z-of_z}
use Rattle.scheme.specs.Writing.{short_way}
use Rattle.draft.specs.Cells.{head_of}
use Rattle.draft.specs.Draft.{draft}
use Rattle.draft.specs.Operations.{opposite}
use Rattle.draft.specs.declared.cells.Condition.{Condition}
use Rattle.draft.specs.declared.cells.Place.{Place}
use Rattle.draft.specs.declared.cells.Head.TheVariants.{Jumps}
use Rattle.phrases.specs.Turns.{IsWay}
use Rattle.phrases.proofs.WayLaws.{way_with, way_behind, way_short, other}
use Rattle.phrases.proofs.ways.put_way_out.Goals as goal

pub returns-in-Jumps-clause-code : goal.returns-in-Jumps-clause-code
returns-in-Jumps-clause-code c = λ C h.
    let k : c.in-Jumps.condition ≡ c.args.decides = search rules in
    rw (← k, h) (way_with c.in-Jumps.condition c.args.mark C c.in-Jumps.to c.in-Jumps.mark (c.in-Jumps.ensures ∙ ap head_of h))

pub returns-in-Jumps-2-clause-code : goal.returns-in-Jumps-2-clause-code
returns-in-Jumps-2-clause-code c = λ C h.
    let k : c.args.decides ≡ opposite c.in-Jumps-2.condition = other _ _ (λ e. search rules) in
    rw k (way_behind c.in-Jumps-2.condition c.args.mark C c.in-Jumps-2.place _ c.in-Jumps-2.own_mark _ (c.in-Jumps-2.ensures ∙ ap head_of h) (grind arith) (grind arith))

pub returns-in_default : goal.returns-in_default
returns-in_default c = record {
  code = λ C h.
      let u = λ (j : Condition) (p : Place) (q : ℕ) (e : head_of (draft C) ≡ Jumps j p q). c.in_default.not-Jumps j p q (c.head.ensures ∙ ap head_of h ∙ e) in
      let f : SFits w32 c.decided.result = search rules in
      subst (IsWay _ _ _) (ap (λ i. short_way i c.args.mark C) c.decided.ensures ∙ way_short c.args.decides c.args.mark C u) (simp to_z-of_z at c.put_short.ensures.code C h);
  room = search rules;
  table = search rules;
}
