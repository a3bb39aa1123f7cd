use Rattle.step_core.proofs.WithdrawSeats as seats
use Rattle.step_core.proofs.laws.withdraw.seat_made.Goals as goal

pub returns : goal.returns
returns c = seats.seat_made
