use Rattle.room.proofs.Depth.{loops_fit}
use Rattle.room.proofs.loops_have_room.Goals as goal

pub returns : goal.returns
returns c = loops_fit
