use Rattle.step_core.proofs.Schedules.{rests_on, steps_on}
use Rattle.step_core.specs.Withdrawing.{IsDoneAt, Steps}
use Rattle.step_core.proofs.laws.withdraw.a_run_goes_on.Goals as goal

pub returns : goal.returns
returns c = record {
  steps = λ w now end ids id run step. steps_on Steps IsDoneAt w now ids id end run step;
  rests = λ w now ids id run done. rests_on Steps IsDoneAt w now ids id run done;
}
