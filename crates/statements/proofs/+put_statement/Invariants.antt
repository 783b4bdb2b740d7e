use Rattle.statements.proofs.+put_statement.Given as goal

abbrev pub decreases-put_statement : goal.decreases-put_statement
decreases-put_statement l = l.n
