use Rattle.step_core.proofs.CastingEnds.{ends}
use Rattle.step_core.proofs.laws.casting.every_end.Goals as goal

pub returns : goal.returns
returns c = ends
