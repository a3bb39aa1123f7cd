use Rattle.step_core.proofs.CastSteps.{keeps_step}
use Rattle.step_core.proofs.laws.cast.any_step.Goals as goal

pub returns : goal.returns
returns c = keeps_step
