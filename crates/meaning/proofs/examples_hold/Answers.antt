use Rattle.std.proofs.Common.{refl}
use Rattle.std.specs.Int.{int_wrap}
use Rattle.meaning.specs.Tables.{parts_after}
use Rattle.meaning.specs.Meaning.{eval, exec, loop, body}
use Rattle.meaning.specs.Run.{outcome}
use Rattle.meaning.proofs.examples_hold.Goals as goal

pub returns : goal.returns
unfolding int_wrap parts_after eval exec loop body outcome
returns c = refl
