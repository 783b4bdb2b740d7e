use Rattle.std.proofs.Common.{arith}
use Rattle.station.proofs.Clear.{not_too_deep}
use Rattle.station.proofs.Runs.{run_made}
use Rattle.station.proofs.passing.run.Goals as goal

pub returns : goal.returns
returns g c =
    let e = c.execute.ensures in
    let d = not_too_deep c.args.allowed c.requires.allowed in
    record {
      ran =
          run_made c.args.allowed c.args.code.now c.lay.new.words _ c.execute.new.words _ _ _ _ _ c.requires.allowed c.requires.code (omega arith) (omega arith)
          c.lay.ensures e.tells;
      lent = e.lent;
      beside = e.beside;
    }
