use Rattle.step_core.proofs.CastOpening.{seat_taken_in}
use Rattle.step_core.proofs.laws.cast.a_seat_taken_in.Goals as goal

pub returns : goal.returns
returns c = seat_taken_in
