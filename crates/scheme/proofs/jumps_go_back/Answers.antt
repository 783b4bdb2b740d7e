use Rattle.std.proofs.Common.{arith}
use Rattle.scheme.specs.Scheme.{script_code}
use Rattle.scheme.proofs.Scope.{back, suffix_size}
use Rattle.scheme.proofs.Pins.{loop-first}
use Rattle.scheme.proofs.jumps_go_back.Goals as goal

pub returns : goal.returns
returns c s w i C j at =
    let b = back s w i C j at in
    let x = suffix_size b.2 in
    let y = loop-first (script_code s) w b.0 b.1 in
    (b.0, b.1, b.2, omega arith)
