use Rattle.std.proofs.Common.{◌+◌}
use Rattle.store_spec.proofs.Common.{Owing, Quiet, Up, found_owed}
use Rattle.step_core.proofs.WithdrawRows.{keeps_row}
use Rattle.step_core.proofs.laws.withdraw.found_owed.Goals as goal

pub returns : goal.returns
returns c = λ home base x bound. keeps_row home base (Owing x bound) bound x x (Up x bound (bound + 1)) Quiet (found_owed)
