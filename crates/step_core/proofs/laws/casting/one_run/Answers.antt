use Rattle.step_core.proofs.CastingRuns.{one_run}
use Rattle.step_core.proofs.laws.casting.one_run.Goals as goal

pub returns : goal.returns
returns c = one_run
