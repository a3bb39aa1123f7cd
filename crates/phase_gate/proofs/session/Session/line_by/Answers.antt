use Rattle.std.proofs.Common.{ap, map, refl, subst, sym, ◌∙◌, Some, string_bytes}
use Rattle.store_spec.proofs.Common.{AnswersBy, Election, err_from_is_err_and}
use Rattle.outside_io.specs.Outside.{output}
use Rattle.outside_io.specs.Stream.{TakesSome}
use Rattle.phase_gate.proofs.Outcomes.{half_told, unacknowledged}
use Rattle.phase_gate.proofs.session.Session.line_by.Goals as goal
use Rattle.phase_gate.specs.Around.{around}
use Rattle.phase_gate.specs.Checkpointed.{Acknowledges, NotAcknowledged}
use Rattle.any_store.specs.Disks.{store_model}
use Rattle.phase_gate.specs.InnerSession.{acknowledged_at, ballots_of, effect_of, election_of, written_at}
use Rattle.phase_gate.specs.Writing.{WritesReply}
use Rattle.script_lines.specs.Line.{IsSaid}

pub returns-in_err-prepare-clause-ends : goal.returns-in_err-prepare-clause-ends
returns-in_err-prepare-clause-ends g c =
    let model = store_model g.S.Store.closes g.M.Disks.disks in
    let sink = output g.K.Sink.taken g.K.Sink.faults c.args.out.now in
    let answer = c.in_ok-inner.field-0 in
    let set = ballots_of answer.inner in
    let told = effect_of answer (string_bytes c.answer.new.reply) in
    let left = err_from_is_err_and c.from_residual-in_err-prepare.result c.from_residual-in_err-prepare.ensures.1 in
    let tells = subst (λ standing. WritesReply standing.writing
    (AnswersBy (g.S.Store.closes standing.election) standing.election c.args.index standing.state (Some c.args.line.now)) told) c.self.view_is
    (c.in_ok-inner.ensures.answers c.args.line.now (subst (λ standing. IsSaid standing.election c.args.line.now c.args.said c.args.ballot.now) (sym c.self.view_is) c.requires.said)) in
    let refused = subst (λ (e : Election). NotAcknowledged model.disks e set c.args.disks.now c.prepare.new.disks
    c.in_err-prepare.field-0.0) (c.in_ok-inner.ensures.election ∙ ap (λ standing. standing.election)
    c.self.view_is) c.in_err-prepare.ensures.refused.1 in
    rw (left.1, left.2)
    (unacknowledged model c.args.self.writing c.args.self.election c.args.index c.args.self.state c.args.line.now told
    tells (around sink c.args.disks.now c.args.report.now) (around sink c.prepare.new.disks c.prepare.new.report)
    (g.met.S.Store.closes_acknowledge_nothing c.args.self.election) set c.in_err-prepare.field-0.0 (ap (λ task. acknowledged_at task set) c.in_err-prepare.ensures.refused.0) refused
    refl c.in_err-prepare.ensures.marks (ap (λ v. map (λ list. list.items) v.items) c.prepare.ensures.others)
    c.in_err-prepare.ensures.held)

pub returns-in_err-write_task-clause-ends : goal.returns-in_err-write_task-clause-ends
returns-in_err-write_task-clause-ends g c =
    let model = store_model g.S.Store.closes g.M.Disks.disks in
    let before = around (output g.K.Sink.taken g.K.Sink.faults c.args.out.now) c.args.disks.now c.args.report.now in
    let after = around (output g.K.Sink.taken g.K.Sink.faults c.write_task.new.out) c.prepare.new.disks (record
    c.prepare.new.report { held = c.len.result }) in
    let answer = c.in_ok-inner.field-0 in
    let set = ballots_of answer.inner in
    let told = effect_of answer (string_bytes c.answer.new.reply) in
    let left = err_from_is_err_and c.from_residual-in_err-write_task.result c.from_residual-in_err-write_task.ensures.1 in
    let tells = subst (λ standing. WritesReply standing.writing
    (AnswersBy (g.S.Store.closes standing.election) standing.election c.args.index standing.state (Some c.args.line.now)) told) c.self.view_is
    (c.in_ok-inner.ensures.answers c.args.line.now (subst (λ standing. IsSaid standing.election c.args.line.now c.args.said c.args.ballot.now) (sym c.self.view_is) c.requires.said)) in
    let acknowledged = subst (λ (e : Election). Acknowledges model.disks e told.acknowledged before.disk after.disk before.marks
    after.marks) (c.in_ok-inner.ensures.election ∙ ap (λ standing. standing.election) c.self.view_is)
    c.in_ok-prepare.ensures.acknowledged in
    rw (left.1, left.2)
    (half_told model c.args.self.writing c.args.self.election c.args.index c.args.self.state c.args.line.now told
    tells before after acknowledged c.len.ensures.count
    c.in_err-write_task.field-0.0
    (subst (λ text. TakesSome before.sink.taken (written_at answer.task (election_of answer.inner) set text) after.sink.taken)
    c.deref.ensures c.in_err-write_task.ensures.some)
    c.in_err-write_task.ensures.fault)
