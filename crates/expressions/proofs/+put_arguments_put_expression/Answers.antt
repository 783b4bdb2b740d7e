use Rattle.script.proofs.SoundLaws.{script_sound}
use Rattle.expressions.proofs.+put_arguments_put_expression.Goals as goal

pub put_arguments-arguments_at-requires-clause-children : goal.put_arguments-arguments_at-requires-clause-children
put_arguments-arguments_at-requires-clause-children t c = (script_sound c.args.script).shaped.children
