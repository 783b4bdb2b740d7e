use Rattle.simulation.proofs.Program.{script_runs}
use Rattle.simulation.proofs.scripts_run_symbolically.Goals as goal

pub returns : goal.returns
returns c = script_runs
