use Rattle.step_core.proofs.CastOpening.{seat_made}
use Rattle.step_core.proofs.laws.cast.a_seat_made.Goals as goal

pub returns : goal.returns
returns c = seat_made
