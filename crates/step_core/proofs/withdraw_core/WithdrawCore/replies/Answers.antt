use Rattle.step_core.proofs.WithdrawCoreEnds.{replies_are}
use Rattle.step_core.proofs.withdraw_core.WithdrawCore.replies.Goals as goal

pub returns-clause-replies : goal.returns-clause-replies
returns-clause-replies c =
    replies_are c.self.inside c.args.self.now c.args.tab c.index.result.now c.replies.result.now c.self.invariant c.self.view_is c.requires c.index.ensures c.replies.ensures
