use Rattle.std.proofs.Common.{◌≡◌, arith, rules}
use Rattle.script.specs.Uses.{uses_as_child}
use Rattle.script.proofs.UsesLaws.{uses_as_child_few}
use Rattle.script.proofs.uses.uses_as_child.Goals as goal

pub returns-clause-few : goal.returns-clause-few
returns-clause-few c =
    let v : c.sum.result ≡ uses_as_child c.args.nodes.now c.args.n = search rules in
    omega (arith, v, uses_as_child_few c.args.nodes.now c.args.n, c.requires)
