use Rattle.std.proofs.Common.{rules}
use Rattle.effects.proofs.perform.Goals as goal

pub returns-in-IfZero-clause-tells : goal.returns-in-IfZero-clause-tells
returns-in-IfZero-clause-tells g c = search rules

pub returns-in-IfNzro-clause-tells : goal.returns-in-IfNzro-clause-tells
returns-in-IfNzro-clause-tells g c = search rules
