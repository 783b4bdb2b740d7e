use Rattle.script.proofs.scope.+arguments_of.Given as goal

abbrev pub decreases-arguments_of : goal.decreases-arguments_of
decreases-arguments_of l = l.n
