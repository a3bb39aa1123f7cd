use Rattle.step_core.proofs.WithdrawSeats.{opened}
use Rattle.step_core.proofs.laws.withdraw.opening.Goals as goal

pub returns : goal.returns
returns c = opened
