use Rattle.expressions.proofs.+put_arguments_put_expression.Given as goal

abbrev pub decreases-put_expression : goal.decreases-put_expression
decreases-put_expression l = l.n

abbrev pub decreases-put_arguments : goal.decreases-put_arguments
decreases-put_arguments l = l.n
