use Rattle.scheme.proofs.Numbers.{decodes}
use Rattle.scheme.proofs.numbers_decode.Goals as goal

pub returns : goal.returns
returns c = decodes
