use Rattle.std.proofs.Common.{◌≡◌, subst, rules}
use borrow.Author.Tests.{tests}
use Rattle.std.proofs.lemmas.Iterator.{YieldsList-from_slice}
use Rattle.std.proofs.lemmas.Iterator.Search.{find_from_yields_List}
use Rattle.std.specs.Prelude.{◌==◌, MatchOption}
use Rattle.script.specs.Limits.{locals_of}
use Rattle.script.proofs.ScopeLaws.{locals_of_first}
use Rattle.script.proofs.scope.locals_under.Goals as goal

pub returns : goal.returns
returns c =
    let found = find_from_yields_List (λ f. f.body == c.args.root) _ _ c.find.result c.find.ensures.ran (YieldsList-from_slice c.args.functions.now cc) (λ x b q k. search (rules, tests)) in
    locals_of_first c.args.functions.now c.args.root c.map_or.result (subst (λ o. MatchOption o (c.map_or.result ≡ 0) (λ f. c.map_or.result ≡ locals_of f)) found (search rules))
