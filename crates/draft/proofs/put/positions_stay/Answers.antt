use Rattle.draft.proofs.PositionLaws.{positions_stay}
use Rattle.draft.proofs.put.positions_stay.Goals as goal

pub returns : goal.returns
returns c = positions_stay
