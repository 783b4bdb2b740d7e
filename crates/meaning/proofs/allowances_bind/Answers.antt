use Rattle.meaning.proofs.Runs.{allowed}
use Rattle.meaning.proofs.allowances_bind.Goals as goal

pub returns : goal.returns
returns c = allowed
