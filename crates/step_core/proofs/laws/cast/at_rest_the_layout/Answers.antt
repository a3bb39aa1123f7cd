use Rattle.step_core.proofs.CastAtRest.{rest_layout}
use Rattle.step_core.proofs.laws.cast.at_rest_the_layout.Goals as goal

pub returns : goal.returns
returns c = rest_layout
