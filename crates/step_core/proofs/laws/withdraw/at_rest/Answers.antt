use Rattle.step_core.proofs.WithdrawAtRest as rest
use Rattle.step_core.proofs.laws.withdraw.at_rest.Goals as goal

pub returns-clause-cells : goal.returns-clause-cells
returns-clause-cells c = rest.at_rest

pub returns-clause-once : goal.returns-clause-once
returns-clause-once c = λ home base words views x inv resting. rest.begun_once home base words views inv resting x

pub returns-clause-gone : goal.returns-clause-gone
returns-clause-gone c = rest.gone_begun
