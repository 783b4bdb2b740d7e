use Rattle.std.proofs.Common.{pos}
use Rattle.std.proofs.lemmas.List.{take-replicate}
use Rattle.station.proofs.globals.Globals.zeros.Goals as goal

pub returns : goal.returns
returns c = take-replicate c.args.used 64 (pos 0) c.requires
