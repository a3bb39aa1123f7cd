use Rattle.step_core.proofs.WithdrawRows.{keeps_row}
use Rattle.step_core.proofs.laws.withdraw.began.Goals as goal
use Rattle.store_spec.proofs.Common.{Begun, Chosen, Owing, began}

pub returns : goal.returns
returns c = λ home base x place word stops. keeps_row home base (Chosen x place) place word word (Owing x place) Begun (began stops)
