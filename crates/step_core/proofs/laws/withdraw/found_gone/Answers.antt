use Rattle.step_core.proofs.WithdrawRows.{keeps_first}
use Rattle.step_core.proofs.laws.withdraw.found_gone.Goals as goal
use Rattle.store_spec.proofs.Common.{Gone, found_gone}
use Rattle.store_spec.specs.WithdrawStep.WithdrawState.{Rest}

pub returns : goal.returns
returns c = λ home base x cell seated. keeps_first home base x cell 1 Rest Gone seated found_gone
