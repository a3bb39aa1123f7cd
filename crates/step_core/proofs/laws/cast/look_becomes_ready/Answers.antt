use Rattle.step_core.proofs.CastRows.{keeps_look_ready}
use Rattle.step_core.proofs.laws.cast.look_becomes_ready.Goals as goal

pub returns : goal.returns
returns c = keeps_look_ready
