use Rattle.std.proofs.Common.{◌∙◌, arith, sym}
use Rattle.phase_kind.proofs.Teams.{answered_at, as_many_phases, belongs_at, named_waits, still_named}
use Rattle.phase_kind.proofs.team.answer_entry.Goals as goal

pub bounds-phases-to : goal.bounds-phases-to
bounds-phases-to g c = omega (arith, c.entry-to.ensures.within, as_many_phases c.args.phases.now c.args.workers.now c.requires.team)

pub bounds-workers-to : goal.bounds-workers-to
bounds-workers-to g c = c.entry-to.ensures.within

pub answer_next-requires-clause-belongs : goal.answer_next-requires-clause-belongs
answer_next-requires-clause-belongs g c κs within =
    belongs_at c.args.phases.now c.args.workers.now c.entry-to.result c.index-workers-to.result c.index-phases-to.result c.requires.team c.entry-to.ensures.within ∙ sym c.index-phases-to.is

pub answer_next-requires-clause-waits : goal.answer_next-requires-clause-waits
answer_next-requires-clause-waits g c κs within =
    named_waits c.args.order.now c.args.workers.now c.args.index c.entry-to.result c.requires.named c.entry-to.ensures.there c.index-workers-to.result

pub returns-clause-answers : goal.returns-clause-answers
returns-clause-answers g c =
    let put = c.answer_next.ensures in
    (c.entry-to.result, c.entry-to.ensures.there, answered_at g.K.Kind.rests c.args.workers.now c.entry-to.result c.index-workers-to.result c.answer_next.new.worker put.answers.0 put.answers.1 c.entry-to.ensures.within put.phase put.at_rest put.room put.answers.2 put.answers.3)

pub returns-clause-named : goal.returns-clause-named
returns-clause-named g c =
    still_named c.args.order.now c.args.workers.now c.args.index c.entry-to.result c.requires.named c.entry-to.ensures.there c.index-workers-to.result c.answer_next.new.worker c.answer_next.ensures.answers.0 c.answer_next.ensures.answers.2
