use Rattle.step_core.proofs.CastingEnds.{opened_is}
use Rattle.step_core.proofs.CastingSteps.{steps_keep}
use Rattle.step_core.proofs.Schedules.{runs_keep}
use Rattle.step_core.proofs.laws.casting.every_list_of_steps.Goals as goal
use Rattle.step_core.specs.Casting.{IsDoneAt, Steps, opened}
use Rattle.step_core.specs.CastingInvariant.{IsCasting}

pub returns : goal.returns
returns c = λ bits salt limit start lists schedule end may runs.
    runs_keep Steps IsDoneAt IsCasting steps_keep (opened bits salt limit start lists) schedule end (opened_is bits salt limit start lists may) runs
