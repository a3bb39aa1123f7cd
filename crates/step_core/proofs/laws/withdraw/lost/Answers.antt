use Rattle.std.proofs.Common.{◌+◌}
use Rattle.store_spec.proofs.Common.{Down, Owing, Quiet, lost}
use Rattle.step_core.proofs.WithdrawRows.{keeps_row}
use Rattle.step_core.proofs.laws.withdraw.lost.Goals as goal

pub returns : goal.returns
returns c = λ home base x bound c source word other. keeps_row home base (Down x (bound + 1) (bound + 1) c source) (bound + 1) word word (Owing x bound) Quiet (lost other)
