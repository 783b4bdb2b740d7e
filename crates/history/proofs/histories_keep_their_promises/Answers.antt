use Rattle.std.proofs.Common.{refl}
use Rattle.history.proofs.Keeping.{promised}
use Rattle.history.proofs.histories_keep_their_promises.Goals as goal

pub returns : goal.returns
returns c = λ cs. promised cs _ refl
