use Rattle.step_core.proofs.CastRows.{keeps_takes_empty}
use Rattle.step_core.proofs.laws.cast.takes_an_empty_cell.Goals as goal

pub returns : goal.returns
returns c = keeps_takes_empty
