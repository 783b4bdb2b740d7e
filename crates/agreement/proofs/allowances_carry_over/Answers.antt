use Rattle.agreement.proofs.Carrying.{carried}
use Rattle.agreement.proofs.allowances_carry_over.Goals as goal

pub returns : goal.returns
returns c = carried
