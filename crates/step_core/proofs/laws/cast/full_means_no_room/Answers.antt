use Rattle.step_core.proofs.CastAtRest.{full_for}
use Rattle.step_core.proofs.laws.cast.full_means_no_room.Goals as goal

pub returns : goal.returns
returns c = full_for
