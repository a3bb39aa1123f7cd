use Rattle.step_core.proofs.CastRows.{keeps_row}
use Rattle.step_core.proofs.laws.cast.any_row.Goals as goal

pub returns : goal.returns
returns c = keeps_row
