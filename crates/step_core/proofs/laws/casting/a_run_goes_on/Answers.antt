use Rattle.step_core.proofs.Schedules.{rests_on, steps_on}
use Rattle.step_core.specs.Casting.{IsDoneAt, Steps}
use Rattle.step_core.proofs.laws.casting.a_run_goes_on.Goals as goal

pub returns : goal.returns
returns c = record {
  steps = λ phase now end schedule id run step. steps_on Steps IsDoneAt phase now schedule id end run step;
  rests = λ phase now schedule id run done. rests_on Steps IsDoneAt phase now schedule id run done;
}
