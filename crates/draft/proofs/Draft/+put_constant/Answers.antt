use Rattle.std.proofs.Common.{drop, ℤ, ap, ◌∙◌, sym, w32, SFits, rules}
use Rattle.std.proofs.lemmas.Int.{to_z-of_z}
use Rattle.draft.specs.Drafted.{code_of}
use Rattle.draft.specs.Operations.{constant_put, constant_by}
use Rattle.draft.proofs.Steps.{constant_plan}
use Rattle.draft.proofs.Draft.+put_constant.Goals as goal

pub returns-in-Again-clause-code : goal.returns-in-Again-clause-code
returns-in-Again-clause-code t c =
    let D = code_of c.args.self.now in
    let again = λ (j : ℤ). constant_put j c.args.mark (drop 1 D) in
    let f = c.ranges.value in
    let g : SFits w32 c.negated.result = search rules in
    (simp to_z-of_z at c.put_constant.ensures.code) ∙ ap (constant_put c.negated.result c.args.mark) c.drop_first-in-Again.ensures.code
    ∙ ap again (simp to_z-of_z at c.negated.ensures)
    ∙ ap (λ p. constant_by p c.args.value c.args.mark again D) (simp to_z-of_z at c.in-Again.ensures.plan)
    ∙ sym (constant_plan c.args.value c.args.mark D)
