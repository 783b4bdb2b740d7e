use Rattle.std.proofs.Common.{arith}
use Rattle.std.proofs.lemmas.List.{length-take-le}
use Rattle.script.proofs.SoundLaws.{script_sound}
use Rattle.expressions.proofs.Words.{sum_before}
use Rattle.expressions.proofs.first_word.Goals as goal

pub words_of-requires : goal.words_of-requires
words_of-requires c = let l = (script_sound c.args.script).limited in omega (arith, l.globals, length-take-le c.args.g c.args.script.globals.now c.requires)

pub returns-clause-few : goal.returns-clause-few
returns-clause-few c = let l = (script_sound c.args.script).limited in omega (arith, l.words, sum_before c.args.script.globals.now c.args.g)
