use Rattle.std.proofs.Common.{◌+◌}
use Rattle.store_spec.proofs.Common.{Quiet, Up, looked_higher}
use Rattle.step_core.proofs.WithdrawRows.{keeps_row}
use Rattle.step_core.proofs.laws.withdraw.looked_higher.Goals as goal

pub returns : goal.returns
returns c = λ home base x bound place word misfit. keeps_row home base (Up x bound place) place word word (Up x bound (place + 1)) Quiet (looked_higher misfit)
