use Rattle.machine.proofs.Outcome.{one_outcome}
use Rattle.machine.proofs.one_outcome.Goals as goal

pub returns : goal.returns
returns c = one_outcome
