use Rattle.std.proofs.Common.{◌+◌}
use Rattle.store_spec.proofs.Common.{Down, Quiet, kept_candidate}
use Rattle.step_core.proofs.WithdrawRows.{keeps_row}
use Rattle.step_core.proofs.laws.withdraw.kept_candidate.Goals as goal

pub returns : goal.returns
returns c = λ home base x bound place c source word above misfit. keeps_row home base (Down x bound (place + 1) c source) (place + 1) word word (Down x bound place c source) Quiet (kept_candidate above misfit)
