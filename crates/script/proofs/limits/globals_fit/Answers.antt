use Rattle.std.proofs.Common.{◌≡◌, ◌∙◌, rules}
use borrow.Author.Tests.{tests}
use Rattle.std.proofs.lemmas.Iterator.{YieldsList-from_slice}
use Rattle.std.proofs.lemmas.Iterator.Search.{all_from_yields_List}
use Rattle.script.specs.Limits.{every, global_fits}
use Rattle.script.proofs.EveryLaws.{list_all_is_every}
use Rattle.script.proofs.limits.globals_fit.Goals as goal

pub returns-then-all : goal.returns-then-all
returns-then-all c =
    let all = all_from_yields_List global_fits _ _ c.all.result c.all.ensures.ran (YieldsList-from_slice c.args.globals.now cc) (λ x b q k. search (rules, tests)) in
    let e : c.all.result ≡ every global_fits c.args.globals.now = all ∙ list_all_is_every global_fits c.args.globals.now in
    search rules
