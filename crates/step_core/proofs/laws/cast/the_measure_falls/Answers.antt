use Rattle.step_core.proofs.CastSteps.{falls_at}
use Rattle.step_core.proofs.laws.cast.the_measure_falls.Goals as goal

pub returns : goal.returns
returns c = λ t base words views id view word left new note room h stands row.
    falls_at t base words views id view room h stands word left new note row
