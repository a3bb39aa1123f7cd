use Rattle.step_core.proofs.CastRows.{keeps_look_passes}
use Rattle.step_core.proofs.laws.cast.look_passes.Goals as goal

pub returns : goal.returns
returns c = keeps_look_passes
