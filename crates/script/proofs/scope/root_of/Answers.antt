use Rattle.std.proofs.Common.{refl, rules}
use Rattle.script.specs.Scope.{climb}
use Rattle.script.proofs.ScopeLaws.{climb_on, climb_stays}
use Rattle.script.proofs.scope.root_of.Goals as goal

pub loop-k-init : goal.loop-k-init
unfolding climb
loop-k-init c = refl

pub loop-k-preserved : goal.loop-k-preserved
loop-k-preserved c = search (rules, climb_on, climb_stays)
