use Rattle.meaning.proofs.Runs.{first_part}
use Rattle.meaning.proofs.readings_begin_alike.Goals as goal

pub returns : goal.returns
returns c = first_part
