use Rattle.std.proofs.Common.{length, drop, ap, ◌∙◌}
use Rattle.step_core.proofs.WithdrawCoreTabs.{tab_push}
use Rattle.step_core.proofs.withdrawer.Withdrawer.answer.Goals as goal
use Rattle.step_core.specs.WithdrawCore.{answers_of}
use Rattle.step_core.specs.WithdrawTables.{state_of}

pub returns-clause-answered : goal.returns-clause-answered
returns-clause-answered c =
    let self = c.args.self.now in
    ap (λ rs. record { state = state_of self.state; answers = answers_of self.list.items rs; left = drop (length rs) self.list.items }) c.push_reserved.ensures.items
    ∙ tab_push (state_of self.state) self.list.items self.replies.items c.args.reply c.requires.left
