use Rattle.std.proofs.Common.{refl, arith}
use Rattle.phrases.proofs.Steps.{drafting}
use Rattle.phrases.proofs.ways.put_short.Goals as goal

pub returns-clause-code : goal.returns-clause-code
returns-clause-code c = λ C h. record {
  rest = grind (arith, drafting);
  goes = grind (arith, drafting);
  marked = refl;
}
