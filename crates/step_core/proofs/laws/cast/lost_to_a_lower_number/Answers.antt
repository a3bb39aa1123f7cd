use Rattle.step_core.proofs.CastRows.{keeps_lost_ready}
use Rattle.step_core.proofs.laws.cast.lost_to_a_lower_number.Goals as goal

pub returns : goal.returns
returns c = keeps_lost_ready
