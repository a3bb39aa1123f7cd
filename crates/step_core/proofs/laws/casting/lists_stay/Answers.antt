use Rattle.step_core.proofs.CastingLists.{all_answered, opened_lists, runs_list, steps_list}
use Rattle.step_core.proofs.laws.casting.lists_stay.Goals as goal

pub returns : goal.returns
returns c = record {
  opened = opened_lists;
  stepped = λ phase now id step. steps_list phase id now step;
  run = λ phase end schedule run. runs_list phase schedule end run;
  answered = all_answered;
}
