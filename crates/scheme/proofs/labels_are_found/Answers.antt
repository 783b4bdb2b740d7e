use Rattle.scheme.proofs.Pins.{loop_found, entry_found, entry_stands}
use Rattle.scheme.proofs.labels_are_found.Goals as goal

pub returns : goal.returns
returns c s = (loop_found s, entry_found s, entry_stands s)
