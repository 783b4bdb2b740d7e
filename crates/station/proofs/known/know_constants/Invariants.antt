use Rattle.std.proofs.Common.{take}
use Rattle.accepted.specs.Accepted.{ConstantsFit}
use Rattle.station.proofs.known.know_constants.Given as goal

abbrev pub invariant-loop-node : goal.invariant-loop-node
invariant-loop-node l = ConstantsFit (take l.node-index l.nodes)
