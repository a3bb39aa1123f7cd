use Rattle.std.proofs.Common.{◌+◌}
use Rattle.store_spec.proofs.Common.{Down, Quiet, Up, found_candidate}
use Rattle.step_core.proofs.WithdrawRows.{keeps_row}
use Rattle.step_core.proofs.laws.withdraw.found_candidate.Goals as goal

pub returns : goal.returns
returns c = λ home base x bound place word fits. keeps_row home base (Up x bound (place + 1)) (place + 1) word word (Down x bound place word (place + 1)) Quiet (found_candidate fits)
