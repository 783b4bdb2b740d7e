use Rattle.history.proofs.Single.{once}
use Rattle.history.proofs.histories_are_single.Goals as goal

pub returns : goal.returns
returns c = once
