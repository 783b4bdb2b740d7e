use Rattle.std.proofs.Common.{◌-◌, ◌<◌, length, sym, refl, ap, ◌∙◌, arith, rules}
use Rattle.std.proofs.lemmas.List.{take_all}
use Rattle.scheme.specs.Written.{loop_end, entry_end}
use Rattle.draft.specs.Draft.{draft}
use Rattle.phrases.proofs.Steps.{draft_nil}
use Rattle.room.specs.Bound.{functions_room}
use Rattle.writer.proofs.FunctionLaws.{code_end, room_more}
use Rattle.writer.proofs.put_functions.Goals as goal

pub loop-number-init : goal.loop-number-init
loop-number-init c =
    let fs = c.args.script.functions.now in
    let e = code_end c.args.script in
    let r = ap (functions_room c.args.script.nodes.now) (take_all (length fs) fs (omega arith)) in
    record {
      code = c.requires.empty ∙ sym (ap draft e ∙ draft_nil);
      starts = λ w. c.requires.no_loops w ∙ sym (ap (λ P. loop_end P w) e);
      entries = λ f. c.requires.no_functions f ∙ sym (ap (λ P. entry_end P f) e);
      room = omega (arith, r);
      taken = omega (arith, r);
      table = record { lender = refl; long = refl };
      loops = record { used = refl; long = refl; kept = refl; lender = refl };
    }

pub put_function-requires-clause-room : goal.put_function-requires-clause-room
put_function-requires-clause-room c =
    let h : c.loop-number.number - 1 < length c.args.script.functions.now = search rules in
    omega (arith, room_more c.args.script.nodes.now c.args.script.functions.now c.loop-number.number (c.loop-number.number - 1) (omega arith) h, c.loop-number.invariant.room)
