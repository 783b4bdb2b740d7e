use Rattle.accepted.proofs.Whole.{accepted}
use Rattle.accepted.proofs.accepted_scripts_are_proper.Goals as goal

pub returns : goal.returns
returns c = accepted
