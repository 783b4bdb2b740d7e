use Rattle.std.proofs.Common.{◌≡◌}
use Rattle.script.specs.Scope.{climb}
use Rattle.script.proofs.scope.root_of.Given as goal

abbrev pub invariant-loop-k : goal.invariant-loop-k
invariant-loop-k l = l.root ≡ climb l.nodes l.n l.k
