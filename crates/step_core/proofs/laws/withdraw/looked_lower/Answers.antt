use Rattle.std.proofs.Common.{◌+◌}
use Rattle.store_spec.proofs.Common.{Owing, Quiet, looked_lower}
use Rattle.step_core.proofs.WithdrawRows.{keeps_row}
use Rattle.step_core.proofs.laws.withdraw.looked_lower.Goals as goal

pub returns : goal.returns
returns c = λ home base x bound word other. keeps_row home base (Owing x (bound + 1)) (bound + 1) word word (Owing x bound) Quiet (looked_lower other)
