use Rattle.meaning.proofs.Endless.{never_free}
use Rattle.meaning.proofs.endless_runs_starve.Goals as goal

pub returns : goal.returns
returns c = never_free
