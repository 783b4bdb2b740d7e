use Rattle.std.proofs.Common.{◌≡◌, ◌∷◌, length, pos, negsuc, ap, ◌∙◌, arith, w32, to_z, rules}
use Rattle.scheme.specs.Code as S
use Rattle.scheme.specs.Writing as W
use Rattle.draft.specs.Draft.{draft}
use Rattle.draft.specs.declared.cells.Place.TheVariants.{Behind}
use Rattle.draft.proofs.DraftLaws.{length-draft}
use Rattle.draft.specs.Drafted.{code_of}
use Rattle.phrases.proofs.Steps.{drafting}
use Rattle.phrases.proofs.address.put_element.Goals as goal

pub returns-clause-code : goal.returns-clause-code
returns-clause-code c = λ C h.
    let n = c.args.mark in
    let O : S.Code = W.add_cst (pos c.args.first) n (S.plain S.add n ∷ C) in
    let T : S.Code = S.csti (negsuc 0) n ∷ (S.plain S.ldi n ∷ (S.label ∷ O)) in
    let a : code_of c.put_one.new.self ≡ draft (S.plain S.add n ∷ C) = grind (arith, drafting) in
    let o = c.put_number.ensures.code _ a in
    let t = c.put_outside.ensures.code O o in
    let inside : c.len.result ≡ S.size O = c.len.ensures ∙ ap length o ∙ length-draft O in
    let outside : c.len-2.result ≡ S.size T = omega (arith, c.len-2.ensures, ap length t, length-draft (S.label ∷ T)) in
    let q = c.put_test.ensures.code (S.behind (S.size O)) (ap Behind inside) (S.label ∷ T) t in
    let l : to_z w32 c.args.len ≡ pos c.args.len = search rules in
    let r = c.put_test-2.ensures.code (S.behind (S.size T)) (ap Behind outside) _ q in
    rw (c.word_of.ensures, l) at r
