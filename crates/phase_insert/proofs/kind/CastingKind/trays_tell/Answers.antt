use Rattle.phase_insert.proofs.Trays.{told_more}
use Rattle.phase_insert.proofs.kind.CastingKind.trays_tell.Goals as goal

pub returns-clause-more : goal.returns-clause-more
returns-clause-more c phase old now tray x reply told answered = told_more phase old now tray x reply told answered.valid answered.compares answered.gains answered.new
