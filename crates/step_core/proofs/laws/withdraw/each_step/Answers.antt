use Rattle.step_core.proofs.WithdrawRows.{keeps_step}
use Rattle.step_core.proofs.laws.withdraw.each_step.Goals as goal

pub returns : goal.returns
returns c = keeps_step
