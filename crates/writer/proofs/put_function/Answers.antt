use Rattle.std.proofs.Common.{◌≡◌, ◌∷◌, length, ap, ◌∙◌, arith, rules}
use Rattle.scheme.specs.Code as S
use Rattle.scheme.specs.Scheme.{body_code}
use Rattle.script.specs.Scope.{function_at}
use Rattle.meaning.specs.Tables.{parts, function_of}
use Rattle.draft.specs.Draft.{draft}
use Rattle.draft.proofs.DraftLaws.{length-draft}
use Rattle.draft.specs.Drafted.{code_of}
use Rattle.phrases.proofs.Steps.{drafting}
use Rattle.writer.proofs.FunctionLaws.{found, ends}
use Rattle.writer.proofs.put_function.Goals as goal

pub returns-clause-entries : goal.returns-clause-entries
returns-clause-entries c = λ C h k.
    let n = c.args.number in
    let B : S.Code = body_code c.args.script.globals.now (function_of (parts c.args.script.nodes.now) (function_at c.args.script.functions.now n)) C in
    let l : code_of c.flag.new.self ≡ draft (S.entry n ∷ B) = grind (arith, drafting) in
    found c.args.entries.now n c.len.result B (search rules) (c.len.ensures ∙ ap length l ∙ length-draft (S.entry n ∷ B)) (λ f. grind (arith, ends))
