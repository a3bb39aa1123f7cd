use Rattle.step_core.proofs.CoreTabs.{answered_is}
use Rattle.step_core.proofs.tabulator.Tabulator.answer.Goals as goal
use Rattle.step_core.specs.CastTables.{state_of}

pub returns-clause-answered : goal.returns-clause-answered
returns-clause-answered c =
    let old = c.args.self.now in
    answered_is (state_of old.state) old.list.items old.replies.items c.push_reserved.new.self.items c.args.met c.requires.left c.push_reserved.ensures.items
