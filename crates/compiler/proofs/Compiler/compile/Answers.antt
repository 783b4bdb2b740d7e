use Rattle.std.proofs.Common.{arith}
use Rattle.script.proofs.SoundLaws.{script_sound}
use Rattle.compiler.proofs.Landing.{held}
use Rattle.compiler.proofs.Compiler.compile.Goals as goal

pub returns-clause-code : goal.returns-clause-code
returns-clause-code c =
    let s = c.in_ok-script.script in
    let same = c.in_ok-script.ensures.accepted in
    let l = (script_sound s).limited in
    let e = c.in_ok-start.ensures in
    rw (← same.0, ← same.1, ← same.2) (held s c.in_ok-start.start c.write_script.new.entries _ _ _ e.answer e.words e.marks e.entries c.turn_round.ensures (omega (arith, l.functions.1)))
