use Rattle.step_core.proofs.CastingMeasure.{steps_fall}
use Rattle.step_core.proofs.CastingSteps.{steps_keep}
use Rattle.step_core.proofs.laws.casting.every_step.Goals as goal

pub returns : goal.returns
returns c = record {
  keeps = λ phase now id h step. steps_keep phase id now h step;
  falls = λ phase now id h step. steps_fall phase id now h step;
}
