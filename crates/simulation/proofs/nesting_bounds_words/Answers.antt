use Rattle.simulation.proofs.Room.{roomy}
use Rattle.simulation.proofs.nesting_bounds_words.Goals as goal

pub returns : goal.returns
returns c = roomy
