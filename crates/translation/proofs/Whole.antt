-- The theorem: from position 0 the machine on the words of a script's code does what its symbolic code does.
use Rattle.std.proofs.Common.{List, sym, subst, arith}
use Rattle.scheme.specs.Code.{Code}
use Rattle.scheme.specs.Scheme.{script_code}
use Rattle.symbolic.specs.Symbolic.{same, ends}
use Rattle.translation.specs.Translated.{Translated}
use Rattle.translation.proofs.Sound.{sound}
use Rattle.translation.proofs.Stepping.{Backs}
use Rattle.translation.proofs.Running.{running}

pub translated : Translated
translated script cap limit board ws S ρ o distinct top low high holds (ends k h) =
    let P = script_code script in
    running P cap limit board (sound script distinct) k P ws 0 S ρ o h
    (record {
      stands = same;
      place = omega arith;
      backs = subst (λ (K : List Code). Backs P cap limit board K) (sym top) tt;
      holds = holds;
      low = low;
      high = high;
    })
