use Rattle.step_core.proofs.WithdrawReady.{found_taken}
use Rattle.step_core.proofs.laws.withdraw.a_flag.Goals as goal

pub returns-clause-found_again : goal.returns-clause-found_again
returns-clause-found_again c = λ home base words views id view x cell inv has seated taken. found_taken home base words views id view inv has x cell seated taken
