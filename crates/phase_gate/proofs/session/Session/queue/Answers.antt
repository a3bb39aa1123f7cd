use Rattle.std.proofs.Common.{Some, subst}
use Rattle.store_spec.proofs.Common.{AnswersBy, IfOk}
use Rattle.phase_gate.proofs.session.Session.queue.Goals as goal
use Rattle.phase_gate.specs.InnerSession.{IsQueued, state_of}
use Rattle.script_lines.specs.Line.{IsSaid}

pub returns-clause-queued : goal.returns-clause-queued
returns-clause-queued g c = λ index.
    subst (λ standing. IfOk c.queue.result (λ left. IsQueued left
    (AnswersBy (g.S.Store.closes standing.election) standing.election index standing.state (Some c.args.line.now))
    (λ said. IsSaid standing.election c.args.line.now said c.queue.new.ballot) standing.state (state_of c.queue.new.self)))
    c.self.view_is (c.queue.ensures.queued index)
