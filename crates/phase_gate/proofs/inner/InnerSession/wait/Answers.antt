use Rattle.std.proofs.Common.{ap, string_bytes}
use Rattle.store_spec.proofs.Common.{in_phase}
use Rattle.phase_gate.proofs.Queues.{entry_does}
use Rattle.phase_gate.proofs.Told.{tells_line}
use Rattle.phase_gate.proofs.inner.InnerSession.wait.Goals as goal
use Rattle.phase_gate.specs.InnerSession.{ballots_of, closes_of, election_of, phase_at, queued_effect, state_of}
use Rattle.script_lines.specs.Line.{entry_line}

pub returns-clause-does : goal.returns-clause-does
returns-clause-does g c =
    let self = c.args.self in
    let r = c.args.ballot.now in
    let now = phase_at c.queue_entry.new.self in
    let place = c.in_ok-queued.queued in
    let effect = queued_effect c.args.index (state_of c.queue_entry.new.self) place in
    tells_line c.queued.result c.args.writing self c.args.index (entry_line c.args.tab c.args.entry r) (string_bytes c.queued.new.reply) effect
    (entry_does (closes_of self) (election_of self) c.args.index (ballots_of self) c.args.entry c.args.tab r (phase_at self) place now effect
    c.in_ok-queued.ensures.goes (ap (λ store. queued_effect c.args.index (in_phase now (g.S.Store.ballots store)) place) c.queue_entry.ensures.store))
    c.queued.ensures.effect
