use Rattle.std.proofs.Common.{ap, ◌∙◌, rules}
use borrow.Author.Tests.{tests}
use Rattle.std.proofs.lemmas.Iterator.{YieldsList-from_slice}
use Rattle.std.proofs.lemmas.Iterator.Search.{all_from_yields_List}
use Rattle.std.specs.List.{list_all}
use Rattle.script.specs.Shape.{child_fits}
use Rattle.script.proofs.ShapedLaws.{fields_fit}
use Rattle.script.proofs.shape.children_fit.Goals as goal

pub returns : goal.returns
returns c =
    let all = all_from_yields_List (λ f. child_fits c.args.nodes.now c.args.i f.0 f.1) _ _ c.all.result c.all.ensures.ran (YieldsList-from_slice c.fields.result cc) (λ x b q k. search (rules, tests)) in
    all ∙ ap (list_all (λ f. child_fits c.args.nodes.now c.args.i f.0 f.1)) c.fields.ensures ∙ fields_fit c.args.nodes.now c.args.i c.args.node.now
