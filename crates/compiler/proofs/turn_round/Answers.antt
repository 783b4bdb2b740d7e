use Rattle.std.proofs.Common.{rules}
use Rattle.std.proofs.lemmas.List.Edits.{map_over_more}
use Rattle.compiler.specs.Compiled.{position_of}
use Rattle.compiler.proofs.turn_round.Goals as goal

pub loop-entry-preserved : goal.loop-entry-preserved
unfolding position_of
loop-entry-preserved c = search (rules, map_over_more (position_of c.args.whole))
