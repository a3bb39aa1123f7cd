use Rattle.step_core.proofs.WithdrawRows.{keeps_row}
use Rattle.step_core.proofs.laws.withdraw.refilled.Goals as goal
use Rattle.store_spec.proofs.Common.{Down, Owing, Quiet, refilled}

pub returns : goal.returns
returns c = λ home base x bound c source some. keeps_row home base (Down x bound bound c source) bound x c (Owing c source) Quiet (refilled some)
