use Rattle.step_core.proofs.WithdrawRows.{keeps_row}
use Rattle.step_core.proofs.laws.withdraw.emptied.Goals as goal
use Rattle.store_spec.proofs.Common.{Done, Down, emptied}
use Rattle.store_spec.specs.WithdrawStep.WithdrawState.{Rest}

pub returns : goal.returns
returns c = λ home base x bound source. keeps_row home base (Down x bound bound 0 source) bound x 0 (Rest) Done (emptied)
