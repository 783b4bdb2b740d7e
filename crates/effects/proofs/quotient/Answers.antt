use Rattle.std.proofs.Common.{rules}
use Rattle.std.specs.Int.{int_wrap}
use Rattle.effects.specs.Effects.{quotient}
use Rattle.effects.proofs.quotient.Goals as goal

pub returns : goal.returns
unfolding quotient int_wrap
returns c = search rules
