use Rattle.step_core.proofs.CastRows.{keeps_displaces}
use Rattle.step_core.proofs.laws.cast.displaces_a_lower_number.Goals as goal

pub returns : goal.returns
returns c = keeps_displaces
