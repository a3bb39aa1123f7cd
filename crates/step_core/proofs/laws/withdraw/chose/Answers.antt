use Rattle.step_core.proofs.WithdrawRows.{keeps_first}
use Rattle.step_core.proofs.laws.withdraw.chose.Goals as goal
use Rattle.store_spec.proofs.Common.{Chosen, Quiet, chose}

pub returns : goal.returns
returns c = λ home base x cell seated. keeps_first home base x cell 0 (Chosen x (home x)) Quiet seated chose
