use Rattle.std.proofs.Common.{◌∙◌, rules}
use borrow.Author.Tests.{tests}
use Rattle.std.proofs.lemmas.Iterator.{YieldsList-from_slice}
use Rattle.std.proofs.lemmas.Iterator.Search.{all_from_yields_List}
use Rattle.script.specs.Limits.{function_fits}
use Rattle.script.proofs.EveryLaws.{list_all_is_every}
use Rattle.script.proofs.limits.functions_fit.Goals as goal

pub returns : goal.returns
returns c =
    let fits = function_fits c.args.nodes in
    let all = all_from_yields_List fits _ _ _ c.all.ensures.ran (YieldsList-from_slice c.args.functions.now cc) (λ x b q k. search (rules, tests)) in
    all ∙ list_all_is_every fits c.args.functions.now
