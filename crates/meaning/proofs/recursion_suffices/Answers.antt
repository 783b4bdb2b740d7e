use Rattle.meaning.proofs.Enough.{never_out}
use Rattle.meaning.proofs.recursion_suffices.Goals as goal

pub returns : goal.returns
returns c = never_out
