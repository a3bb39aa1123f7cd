use Rattle.std.proofs.Common.{sym, ◌∙◌}
use Rattle.step_core.proofs.CoreTabs.{caught_up_none, caught_up_stops}
use Rattle.step_core.proofs.tabulator.Tabulator.catch_up.Goals as goal
use Rattle.step_core.specs.CastCore.{tab_of}

pub returns-in-None-clause-caught_up : goal.returns-in-None-clause-caught_up
returns-in-None-clause-caught_up c =
    let tab = tab_of c.answers.self in
    sym (caught_up_stops c.args.base.now c.args.claims tab.state tab.answers tab.left c.in-Some.number (sym c.in-Some.ensures) c.in-None.ensures) ∙ c.answers.invariant.caught_up

pub returns-clause-caught_up : goal.returns-clause-caught_up
returns-clause-caught_up c =
    let tab = tab_of c.answers.self in
    sym (caught_up_none c.args.base.now c.args.claims tab.state tab.answers tab.left (sym c.first.ensures ∙ c.in_default.is)) ∙ c.answers.invariant.caught_up
