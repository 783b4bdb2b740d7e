use Rattle.std.proofs.Common.{rules}
use Rattle.stack.specs.Entries.{opened}
use Rattle.stack.proofs.Stack.open.Goals as goal

pub returns : goal.returns
unfolding opened
returns g c = search rules
