use Rattle.std.proofs.Common.{length, sym, refl, ap, ◌∙◌, arith}
use Rattle.board.proofs.Frames.{framed-none, framed-more}
use Rattle.machine.proofs.Falls.{falls}
use Rattle.machine.proofs.Going.{onward, ended}
use Rattle.machine.proofs.run.Goals as goal

pub loop-next-init : goal.loop-next-init
loop-next-init g c = (c.requires.used, refl, refl, refl, refl, framed-none _ _, λ _ _ r. r)

pub step-requires : goal.step-requires
step-requires g c =
    let i = c.loop-next.invariant in
    record { code = c.requires.code; inputs = c.count-inputs.ensures ∙ ap length (sym i.4); deepest = c.requires.deepest; capacity = omega arith; used = i.0 }

pub loop-next-smaller : goal.loop-next-smaller
loop-next-smaller g c = falls _ _ _ c.in-Ok.ensures.tells

pub loop-next-preserved : goal.loop-next-preserved
loop-next-preserved g c =
    let e = c.in-Ok.ensures in
    let i = c.loop-next.invariant in
    (e.within, e.length ∙ i.1, e.lender ∙ i.2, e.lent ∙ i.3, e.inputs ∙ i.4, framed-more _ _ _ _ _ _ i.5 e.beside, onward _ _ _ i.6 _ e.tells)

pub returns-in-Err : goal.returns-in-Err
returns-in-Err g c =
    let e = c.in-Err.ensures in
    let i = c.loop-next.invariant in
    record {
      ends = ended _ _ _ i.6 _ _ e.tells.0 e.tells.1;
      within = e.within;
      length = e.length ∙ i.1;
      lender = e.lender ∙ i.2;
      lent = e.lent ∙ i.3;
      beside = framed-more _ _ _ _ _ _ i.5 e.beside;
    }
