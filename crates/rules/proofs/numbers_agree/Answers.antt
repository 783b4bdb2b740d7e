use Rattle.rules.proofs.Numbers.{numbers_agree}
use Rattle.rules.proofs.numbers_agree.Goals as goal

pub returns : goal.returns
returns c = numbers_agree
