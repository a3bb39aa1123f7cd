use Rattle.step_core.proofs.WithdrawingLists.{all_answered, opened_lists, runs_list, steps_list}
use Rattle.step_core.proofs.laws.withdraw.lists_stay.Goals as goal

pub returns : goal.returns
returns c = record {
  opened = opened_lists;
  stepped = λ w now id h step. steps_list w id now h step;
  run = λ w end ids h run. runs_list w ids end run h;
  answered = all_answered;
}
