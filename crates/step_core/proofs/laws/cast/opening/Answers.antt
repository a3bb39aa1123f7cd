use Rattle.step_core.proofs.CastOpening.{opening}
use Rattle.step_core.proofs.laws.cast.opening.Goals as goal

pub returns : goal.returns
returns c = opening
