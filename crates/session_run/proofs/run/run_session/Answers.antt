use Rattle.std.proofs.Common.{◌∙◌, subst, sym, ap}
use Rattle.store_spec.proofs.Common.{Election, IsElection, disk_model}
use Rattle.outside_io.specs.Outside.{input, output}
use Rattle.phase_gate.specs.Around.{Around, around}
use Rattle.phase_gate.specs.Writing.{written_of}
use Rattle.session_run.proofs.Beginning.{answer_is, counts_of, has_begun, medium_now, medium_of, no_failure, no_memory, refused}
use Rattle.session_run.proofs.Going.{went_on}
use Rattle.session_run.proofs.run.run_session.Goals as goal
use Rattle.session_run.specs.Ends.{SessionEnds}
use Rattle.session_run.specs.Faults.{run_fault}

pub returns-in_err-lines-clause-ends : goal.returns-in_err-lines-clause-ends
returns-in_err-lines-clause-ends g c =
    let model = disk_model g.D.Disk.seen g.D.Disk.calls g.D.Disk.may_leave g.D.Disk.faults in
    let script = input g.S.Source.left g.S.Source.faults c.args.script.now in
    let before = around (output g.K.Sink.taken g.K.Sink.faults c.args.out.now) c.args.disk.now c.args.report.now in
    subst (λ r. SessionEnds model (written_of c.args.writing) c.args.election.now r script script before before)
    (sym (answer_is c.from_residual-in_err-lines.result _ c.from_residual-in_err-lines.ensures.1))
    (no_memory model c.args.election.now (written_of c.args.writing) script before c.requires.marks c.requires.held)

pub returns-in_err-closed-clause-ends : goal.returns-in_err-closed-clause-ends
returns-in_err-closed-clause-ends g c =
    let model = disk_model g.D.Disk.seen g.D.Disk.calls g.D.Disk.may_leave g.D.Disk.faults in
    let script = input g.S.Source.left g.S.Source.faults c.args.script.now in
    let before = around (output g.K.Sink.taken g.K.Sink.faults c.args.out.now) c.args.disk.now c.args.report.now in
    let after = around (output g.K.Sink.taken g.K.Sink.faults c.args.out.now) c.recover.new.disk c.args.report.now in
    let no = c.in_err-closed.ensures in
    let why = c.in_err-closed.field-0.0 in
    subst (λ r. SessionEnds model (written_of c.args.writing) c.args.election.now r script script before after)
    (sym (answer_is c.from_residual-in_err-closed.result (run_fault why)
    c.from_residual-in_err-closed.ensures.1))
    (refused model c.args.election.now (written_of c.args.writing) script before c.requires.marks c.requires.held why
    c.recover.new.disk no.refused no.unchanged no.unharmed no.calls.told no.any_moment no.called (counts_of why no.calls.fault))

pub play-requires-clause-election : goal.play-requires-clause-election
play-requires-clause-election g c κs outlives = subst (λ (e : Election). IsElection e)
    (sym (c.writing-session.ensures.election ∙ c.in_ok-closed.ensures.election)) c.requires.election

pub play-requires-clause-medium : goal.play-requires-clause-medium
play-requires-clause-medium g c κs outlives =
    let model = disk_model g.D.Disk.seen g.D.Disk.calls g.D.Disk.may_leave g.D.Disk.faults in
    let did = c.in_ok-closed.ensures in
    medium_of model c.args.election.now c.writing-session.result.election c.in_ok-closed.closed.ballots
    c.args.disk.now c.recover.new.disk (sym (c.writing-session.ensures.election ∙ did.election)) did.settled did.medium

pub returns-clause-ends : goal.returns-clause-ends
returns-clause-ends g c =
    let model = disk_model g.D.Disk.seen g.D.Disk.calls g.D.Disk.may_leave g.D.Disk.faults in
    let did = c.in_ok-closed.ensures in
    let e = c.args.election.now in
    let closed = c.in_ok-closed.closed in
    let begun = c.writing-session.result in
    let before = around (output g.K.Sink.taken g.K.Sink.faults c.args.out.now) c.args.disk.now c.args.report.now in
    let mid : Around g.row.K.Denot g.row.D.Denot = record {
      sink = before.sink;
      disk = c.recover.new.disk;
      marks = before.marks;
      others = before.others;
      held = c.len.result;
    } in
    went_on model (written_of begun.writing) (written_of c.args.writing) begun.election e begun.state c.play.result
    (input g.S.Source.left g.S.Source.faults c.args.script.now)
    (input g.S.Source.left g.S.Source.faults c.play.new.script) mid
    (around (output g.K.Sink.taken g.K.Sink.faults c.play.new.out) c.play.new.disk c.play.new.report) closed.ballots
    before (ap written_of c.writing-session.ensures.writing) (c.writing-session.ensures.election ∙ did.election)
    c.play.ensures.ends
    (has_begun model e closed begun.state before c.recover.new.disk c.len.result did.held did.election did.stored
    c.writing-session.ensures.begun c.requires.marks c.len.ensures.count did.calls.told
    (medium_now model e closed.ballots c.args.disk.now c.recover.new.disk did.settled did.medium) did.calls.later
    (no_failure did.calls.fault) did.called did.once_synced)
