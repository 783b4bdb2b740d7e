use Rattle.room.proofs.Enough.{room_suffices}
use Rattle.room.proofs.drafts_have_room.Goals as goal

pub returns : goal.returns
returns c = room_suffices
