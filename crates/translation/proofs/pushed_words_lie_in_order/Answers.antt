use Rattle.translation.proofs.Front.{pushed_in_order}
use Rattle.translation.proofs.pushed_words_lie_in_order.Goals as goal

pub returns : goal.returns
returns c = pushed_in_order
