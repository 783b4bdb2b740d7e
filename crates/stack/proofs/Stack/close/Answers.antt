use Rattle.std.proofs.Common.{rules}
use Rattle.stack.specs.Entries.{closed}
use Rattle.stack.proofs.Stack.close.Goals as goal

pub returns : goal.returns
unfolding closed
returns g c = search rules
