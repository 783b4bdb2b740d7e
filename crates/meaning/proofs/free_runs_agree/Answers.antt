use Rattle.meaning.proofs.Runs.{free_once, free_within, free_beyond}
use Rattle.meaning.proofs.free_runs_agree.Goals as goal

pub returns : goal.returns
returns c = λ script globals board r free. (λ r' free'. free_once script globals board r r' free free', free_within script globals board r free, free_beyond script globals board r free)
