use Rattle.agreement.proofs.Joined.{agreement}
use Rattle.agreement.proofs.code_agrees_with_meaning.Goals as goal

pub returns : goal.returns
returns c = agreement
