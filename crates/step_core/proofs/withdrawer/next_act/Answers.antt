use Rattle.step_core.proofs.WithdrawCoreTabs.{next_moves}
use Rattle.step_core.proofs.withdrawer.next_act.Goals as goal
use Rattle.step_core.specs.Act.{act_of}
use Rattle.step_core.specs.WithdrawTables.{state_of}

pub returns : goal.returns
returns c = λ base.
    next_moves _ base c.args.words.now (state_of c.args.state) (act_of c.withdraw_act.result) c.perform-found.result _ _ _
    c.withdraw_act.ensures c.perform-found.ensures.found c.perform-found.ensures.left c.withdraw_after.ensures
