use Rattle.bounds.proofs.Marks.{marks_fit}
use Rattle.bounds.proofs.marks_fit.Goals as goal

pub returns : goal.returns
returns c = marks_fit
