use Rattle.std.proofs.Common.{◌+◌}
use Rattle.store_spec.proofs.Common.{Chosen, Quiet, walked_on}
use Rattle.step_core.proofs.WithdrawRows.{keeps_row}
use Rattle.step_core.proofs.laws.withdraw.walked_on.Goals as goal

pub returns : goal.returns
returns c = λ home base x place word less. keeps_row home base (Chosen x place) place word word (Chosen x (place + 1)) Quiet (walked_on less)
