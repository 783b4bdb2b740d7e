use Rattle.std.proofs.Common.{◌+◌, ◌*◌}
use Rattle.script.proofs.nesting.+nesting_in_nesting_of.Given as goal

abbrev pub decreases-nesting_in : goal.decreases-nesting_in
decreases-nesting_in l = 2 * l.n

abbrev pub decreases-nesting_of : goal.decreases-nesting_of
decreases-nesting_of l = 2 * l.n + 1
