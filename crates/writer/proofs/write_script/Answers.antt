use Rattle.std.proofs.Common.{length, ap, arith}
use Rattle.script.proofs.SoundLaws.{script_sound}
use Rattle.room.proofs.Enough.{room_suffices}
use Rattle.room.proofs.Depth.{loops_fit}
use Rattle.writer.proofs.FunctionLaws.{zeros_read}
use Rattle.writer.proofs.write_script.Goals as goal

pub write_code-requires-clause-suits : goal.write_code-requires-clause-suits
write_code-requires-clause-suits c =
    let s = script_sound c.args.script in
    λ i h. record {
      body = s.limited.body i h;
      sort = s.body i h;
      words = omega (arith, s.limited.locals i h);
      nest = omega (arith, loops_fit _ _ _ s i h, ap length c.over-open.ensures.slots, c.requires.loops, c.over-open.ensures.used);
    }

pub write_code-requires-clause-room : goal.write_code-requires-clause-room
write_code-requires-clause-room c = omega (arith, room_suffices _ _ _ (script_sound c.args.script), c.requires.cells)

pub write_code-requires-clause-starts : goal.write_code-requires-clause-starts
write_code-requires-clause-starts c = let l = (script_sound c.args.script).limited in omega (arith, l.nodes.1, c.fill.ensures.len, c.requires.starts)

pub write_code-requires-clause-entries : goal.write_code-requires-clause-entries
write_code-requires-clause-entries c = let l = (script_sound c.args.script).limited in omega (arith, l.functions.1, c.fill-2.ensures.len, c.requires.entries)

pub write_code-requires-clause-no_loops : goal.write_code-requires-clause-no_loops
write_code-requires-clause-no_loops c = λ w. zeros_read _ (length c.args.starts.now) w (c.fill.ensures.after (λ y h. h))
