use Rattle.phase_delete.proofs.Trays.{told_more}
use Rattle.phase_delete.proofs.kind.WithdrawingKind.trays_tell.Goals as goal

pub returns-clause-more : goal.returns-clause-more
returns-clause-more c phase old now tray x reply told answered = told_more phase old now tray x reply told answered.right answered.gains answered.new
