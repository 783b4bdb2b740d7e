use Rattle.translation.proofs.Whole.{translated}
use Rattle.translation.proofs.words_do_what_symbols_do.Goals as goal

pub returns : goal.returns
returns c = translated
