use Rattle.bounds.proofs.Globals.{globals_stay}
use Rattle.bounds.proofs.globals_stay.Goals as goal

pub returns : goal.returns
returns c = globals_stay
