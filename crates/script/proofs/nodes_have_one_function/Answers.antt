use Rattle.script.proofs.SoundLaws.{rooted}
use Rattle.script.proofs.nodes_have_one_function.Goals as goal

pub returns : goal.returns
returns c = rooted
