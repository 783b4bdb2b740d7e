use Rattle.scheme.proofs.Scope.{forward}
use Rattle.scheme.proofs.jumps_go_forward.Goals as goal

pub returns : goal.returns
returns c = forward
