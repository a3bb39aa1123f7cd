use Rattle.std.proofs.Common.{◌+◌, [], ◌∙◌, None, Some, Ok, Err, inl, inr, refl, subst, sym, ap}
use Rattle.store_spec.proofs.Common.{AnswersBy, Election, replies}
use Rattle.outside_io.specs.Outside.{input, output}
use Rattle.phase_gate.specs.Around.{around, rows_of}
use Rattle.any_store.specs.Beside.{AreRows}
use Rattle.any_store.specs.Disks.{store_model}
use Rattle.phase_gate.specs.LineEnds.{IsHandled, LastEnds, LineEnds}
use Rattle.phase_gate.specs.Writing.{written_of}
use Rattle.phase_gate.specs.declared.fault.SessionFault.TheVariants as session
use Rattle.phase_gate.specs.declared.writing.Writing.{Writing}
use Rattle.script_lines.specs.Line.{IsSaid}
use Rattle.session_run.proofs.Beginning.{answer_is, no_fault}
use Rattle.session_run.proofs.Going.{IsBrought, at_session, counts_line, failed, handled, handled_none, line_ended, queued, room_of, script_ended, takes_room}
use Rattle.session_run.proofs.Marks.{stands_first, stands_on, stood_now, stood_on}
use Rattle.session_run.proofs.Rows.{rows_then}
use Rattle.session_run.proofs.Queued.{not_queued, told_nothing, was_queued}
use Rattle.session_run.proofs.run.play_by.Goals as goal
use Rattle.session_run.proofs.run.play_by.Goals.{in-Whole, in-TooWide}
use Rattle.session_run.specs.Ends.{GoesOn}
use Rattle.session_run.specs.Faults.{line_fault, session_fault}

pub lines-init : goal.lines-init
lines-init g c =
    let model = store_model g.Y.Store.closes g.M.Disks.disks in
    let start = around (output g.K.Sink.taken g.K.Sink.faults c.args.out.now) c.args.disks.now c.args.report.now in
    record {
      read = handled_none model (written_of c.args.session.writing) c.args.session.election c.args.session.state
          c.args.lines.now (g.S.Source.left c.args.script.now) start c.requires.media c.requires.nothing_kept
          c.requires.room c.requires.not_ended;
      own = refl;
      writing = refl;
      counted = room_of c.args.lines.now.room c.requires.room;
      no_fault = refl;
      stands = stands_first model.disks c.args.disks.now c.args.report.now.marks.items c.requires.marks;
      others = c.requires.others;
      begun = refl;
      leads = g.met.M.Disks.leads_to_itself c.args.disks.now;
    }

pub returns-in_err-next_line-clause-ends : goal.returns-in_err-next_line-clause-ends
returns-in_err-next_line-clause-ends g c =
    let model = store_model g.Y.Store.closes g.M.Disks.disks in
    let write = written_of c.args.session.writing in
    let e = c.args.session.election in
    let first = c.args.session.state in
    let old = input g.S.Source.left g.S.Source.faults c.args.script.now in
    let mid = input g.S.Source.left g.S.Source.faults c.lines.script in
    let new = input g.S.Source.left g.S.Source.faults c.next_line.new.source in
    let start = around (output g.K.Sink.taken g.K.Sink.faults c.args.out.now) c.args.disks.now c.args.report.now in
    let now = around (output g.K.Sink.taken g.K.Sink.faults c.lines.out) c.lines.disks c.lines.report in
    let why = c.in_err-next_line.field-0.0 in
    let said = c.in_err-next_line.ensures in
    subst (λ r. GoesOn model write e first r old new start now)
    (sym (answer_is c.from_residual.result (line_fault why) c.from_residual.ensures.1))
    (line_ended model write e c.requires.election first c.lines.session.state c.lines.index c.lines.lines
    c.next_line.new.self old mid new start now c.lines.invariant.read c.lines.invariant.no_fault why said.answers
    said.gives said.within_room said.none_whole said.fault)

pub returns-in_err-end-in-End-clause-ends : goal.returns-in_err-end-in-End-clause-ends
returns-in_err-end-in-End-clause-ends g c =
    let model = store_model g.Y.Store.closes g.M.Disks.disks in
    let write = written_of c.args.session.writing in
    let e = c.args.session.election in
    let first = c.args.session.state in
    let old = input g.S.Source.left g.S.Source.faults c.args.script.now in
    let mid = input g.S.Source.left g.S.Source.faults c.lines.script in
    let new = input g.S.Source.left g.S.Source.faults c.next_line.new.source in
    let start = around (output g.K.Sink.taken g.K.Sink.faults c.args.out.now) c.args.disks.now c.args.report.now in
    let now = around (output g.K.Sink.taken g.K.Sink.faults c.lines.out) c.lines.disks c.lines.report in
    let sink = output g.K.Sink.taken g.K.Sink.faults c.end.new.out in
    let after = around sink c.lines.disks c.lines.report in
    let why = c.in_err-end-in-End.field-0.0 in
    let said = c.in_ok-next_line.ensures in
    subst (λ r. GoesOn model write e first r old new start after)
    (sym (answer_is c.from_residual-in_err-end-in-End.result (session_fault why)
    c.from_residual-in_err-end-in-End.ensures.1))
    (script_ended model write e c.requires.election first c.lines.session.state c.lines.index c.lines.lines
    c.next_line.new.self old mid new start now c.lines.invariant.read c.lines.invariant.no_fault
    c.in_ok-next_line.field-0 said.answers (no_fault said.fault) (Err why) sink c.in-End.is
    (subst (λ (t : Writing). LastEnds (written_of t) c.lines.session.state.phase (Err why) now.sink sink)
    c.lines.invariant.writing c.in_err-end-in-End.ensures))

pub returns-in-End-clause-ends : goal.returns-in-End-clause-ends
returns-in-End-clause-ends g c =
    let model = store_model g.Y.Store.closes g.M.Disks.disks in
    let write = written_of c.args.session.writing in
    let old = input g.S.Source.left g.S.Source.faults c.args.script.now in
    let mid = input g.S.Source.left g.S.Source.faults c.lines.script in
    let new = input g.S.Source.left g.S.Source.faults c.next_line.new.source in
    let start = around (output g.K.Sink.taken g.K.Sink.faults c.args.out.now) c.args.disks.now c.args.report.now in
    let now = around (output g.K.Sink.taken g.K.Sink.faults c.lines.out) c.lines.disks c.lines.report in
    let sink = output g.K.Sink.taken g.K.Sink.faults c.end.new.out in
    let said = c.in_ok-next_line.ensures in
    script_ended model write c.args.session.election c.requires.election c.args.session.state c.lines.session.state
    c.lines.index c.lines.lines c.next_line.new.self old mid new start now c.lines.invariant.read
    c.lines.invariant.no_fault c.in_ok-next_line.field-0 said.answers (no_fault said.fault) (Ok tt) sink c.in-End.is
    (subst (λ (t : Writing). LastEnds (written_of t) c.lines.session.state.phase (Ok tt) now.sink sink)
    c.lines.invariant.writing c.in_ok-end-in-End.ensures)

pub returns-in_err-said-clause-ends : goal.returns-in_err-said-clause-ends
returns-in_err-said-clause-ends g c =
    let model = store_model g.Y.Store.closes g.M.Disks.disks in
    let write = written_of c.args.session.writing in
    let e = c.args.session.election in
    let first = c.args.session.state in
    let old = input g.S.Source.left g.S.Source.faults c.args.script.now in
    let mid = input g.S.Source.left g.S.Source.faults c.lines.script in
    let new = input g.S.Source.left g.S.Source.faults c.next_line.new.source in
    let start = around (output g.K.Sink.taken g.K.Sink.faults c.args.out.now) c.args.disks.now c.args.report.now in
    let now = around (output g.K.Sink.taken g.K.Sink.faults c.lines.out) c.lines.disks c.lines.report in
    let said = c.in_ok-next_line.ensures in
    let brought : IsBrought c.in_ok-next_line.field-0 c.next_line.new.self.line c.match-branch-2.line.now =
    elim c.match-branch-2.branch [
      | in-Whole w ↦ inl (w.in-Whole.is, ap (λ l. l.now) w.line-is ∙ w.line-line.ensures)
      | in-TooWide w ↦ inr (w.in-TooWide.is, ap (λ l. l.now) w.line-is)
    ] in
    subst (λ r. GoesOn model write e first r old new start now)
    (sym (answer_is c.from_residual-in_err-said.result (session_fault session.Memory)
    c.from_residual-in_err-said.ensures.1))
    (failed model write e c.requires.election first c.lines.session.state c.lines.index c.lines.lines
    c.next_line.new.self old mid new start now c.lines.invariant.read c.lines.invariant.no_fault
    c.in_ok-next_line.field-0 said.answers (no_fault said.fault) c.match-branch-2.line.now brought said.progress
    said.within_room session.Memory now (inl refl) None (inl (refl, refl)))

pub handle-requires-clause-said : goal.handle-requires-clause-said
handle-requires-clause-said g c = λ lives longer.
    let bytes = c.match-branch-2.line.now in
    let e = c.lines.session.election in
    subst (λ (e : Election). IsSaid e bytes c.in-Some.said c.queue.new.ballot) (sym c.queue.ensures.election)
    (not_queued c.in_ok-said.field-0 c.in-Some.said (AnswersBy (g.Y.Store.closes e) e 0 c.lines.session.state (Some bytes))
    (λ said. IsSaid e bytes said c.queue.new.ballot) c.lines.session.state c.queue.new.self.state c.in-Some.is (c.in_ok-said.ensures.queued 0)).0

pub returns-in_err-session-clause-ends : goal.returns-in_err-session-clause-ends
returns-in_err-session-clause-ends g c =
    let model = store_model g.Y.Store.closes g.M.Disks.disks in
    let write = written_of c.args.session.writing in
    let e = c.args.session.election in
    let first = c.args.session.state in
    let old = input g.S.Source.left g.S.Source.faults c.args.script.now in
    let mid = input g.S.Source.left g.S.Source.faults c.lines.script in
    let new = input g.S.Source.left g.S.Source.faults c.next_line.new.source in
    let start = around (output g.K.Sink.taken g.K.Sink.faults c.args.out.now) c.args.disks.now c.args.report.now in
    let now = around (output g.K.Sink.taken g.K.Sink.faults c.lines.out) c.lines.disks c.lines.report in
    let after = around (output g.K.Sink.taken g.K.Sink.faults c.handle.new.out) c.handle.new.disks c.handle.new.report in
    let why = c.in_err-session.field-0.0 in
    let said = c.in_ok-next_line.ensures in
    let bytes = c.match-branch-2.line.now in
    let index = c.lines.index in
    let state = c.lines.session.state in
    let brought : IsBrought c.in_ok-next_line.field-0 c.next_line.new.self.line c.match-branch-2.line.now =
    elim c.match-branch-2.branch [
      | in-Whole w ↦ inl (w.in-Whole.is, ap (λ l. l.now) w.line-is ∙ w.line-line.ensures)
      | in-TooWide w ↦ inr (w.in-TooWide.is, ap (λ l. l.now) w.line-is)
    ] in
    subst (λ r. GoesOn model write e first r old new start after)
    (sym (answer_is c.from_residual-in_err-session.result (session_fault why) c.from_residual-in_err-session.ensures.1))
    (failed model write e c.requires.election first state index c.lines.lines c.next_line.new.self old mid new start now
    c.lines.invariant.read c.lines.invariant.no_fault c.in_ok-next_line.field-0 said.answers (no_fault said.fault) bytes
    brought said.progress said.within_room why after
    (at_session (λ writing e state. LineEnds model (written_of writing) e (index + 1) state bytes (Err why) now after)
    (c.queue.ensures.writing ∙ c.lines.invariant.writing) (c.queue.ensures.election ∙ c.lines.invariant.own)
    (not_queued c.in_ok-said.field-0 c.in-Some.said (AnswersBy (g.Y.Store.closes c.lines.session.election) c.lines.session.election (index + 1) state (Some bytes))
    (λ said. IsSaid c.lines.session.election bytes said c.queue.new.ballot) state c.queue.new.self.state c.in-Some.is (c.in_ok-said.ensures.queued (index + 1))).1 c.in_err-session.ensures.ends) c.handle.new.report.begun c.handle.ensures.rows)

pub returns-in_err-next_line-clause-stood : goal.returns-in_err-next_line-clause-stood
returns-in_err-next_line-clause-stood g c =
    stood_now g.M.Disks.disks g.M.Disks.leads_to
    g.met.M.Disks.leads_to_itself c.args.disks.now c.lines.disks c.lines.report.marks.items c.lines.invariant.leads
    c.lines.invariant.stands

pub returns-in_err-end-in-End-clause-stood : goal.returns-in_err-end-in-End-clause-stood
returns-in_err-end-in-End-clause-stood g c =
    stood_now g.M.Disks.disks g.M.Disks.leads_to
    g.met.M.Disks.leads_to_itself c.args.disks.now c.lines.disks c.lines.report.marks.items c.lines.invariant.leads
    c.lines.invariant.stands

pub returns-in-End-clause-stood : goal.returns-in-End-clause-stood
returns-in-End-clause-stood g c =
    stood_now g.M.Disks.disks g.M.Disks.leads_to
    g.met.M.Disks.leads_to_itself c.args.disks.now c.lines.disks c.lines.report.marks.items c.lines.invariant.leads
    c.lines.invariant.stands

pub returns-in_err-said-clause-stood : goal.returns-in_err-said-clause-stood
returns-in_err-said-clause-stood g c =
    stood_now g.M.Disks.disks g.M.Disks.leads_to
    g.met.M.Disks.leads_to_itself c.args.disks.now c.lines.disks c.lines.report.marks.items c.lines.invariant.leads
    c.lines.invariant.stands

pub returns-in_err-session-clause-stood : goal.returns-in_err-session-clause-stood
returns-in_err-session-clause-stood g c =
    stood_on g.M.Disks.disks g.M.Disks.leads_to
    g.met.M.Disks.leads_on c.args.disks.now c.lines.disks c.handle.new.disks c.lines.report.marks.items
    c.handle.new.report.marks.items c.lines.invariant.leads c.lines.invariant.stands c.handle.ensures.stood

pub lines-preserved : goal.lines-preserved
lines-preserved g c =
    let model = store_model g.Y.Store.closes g.M.Disks.disks in
    let writing = c.args.session.writing in
    let old = input g.S.Source.left g.S.Source.faults c.args.script.now in
    let mid = input g.S.Source.left g.S.Source.faults c.lines.script in
    let new = input g.S.Source.left g.S.Source.faults c.next_line.new.source in
    let start = around (output g.K.Sink.taken g.K.Sink.faults c.args.out.now) c.args.disks.now c.args.report.now in
    let now = around (output g.K.Sink.taken g.K.Sink.faults c.lines.out) c.lines.disks c.lines.report in
    let said = c.in_ok-next_line.ensures in
    let bytes = c.match-branch-2.line.now in
    let index = c.lines.index in
    let state = c.lines.session.state in
    let next = c.queue.new.self.state in
    let steady = no_fault said.fault in
    let brought : IsBrought c.in_ok-next_line.field-0 c.next_line.new.self.line c.match-branch-2.line.now =
    elim c.match-branch-2.branch [
      | in-Whole w ↦ inl (w.in-Whole.is, ap (λ l. l.now) w.line-is ∙ w.line-line.ensures)
      | in-TooWide w ↦ inr (w.in-TooWide.is, ap (λ l. l.now) w.line-is)
    ] in
    record {
      read = queued model (written_of writing) c.args.session.election c.requires.election c.args.session.state state index
          c.lines.lines c.next_line.new.self old mid new start now c.lines.invariant.read c.lines.invariant.no_fault
          c.in_ok-next_line.field-0 said.answers steady bytes brought said.progress said.within_room next
          (told_nothing writing)
          (subst (λ (e : Election). AnswersBy (g.Y.Store.closes e) e (index + 1) state (Some bytes) (replies [] next)) c.lines.invariant.own
          (was_queued c.in_ok-said.field-0 (AnswersBy (g.Y.Store.closes c.lines.session.election) c.lines.session.election (index + 1) state (Some bytes))
          (λ said. IsSaid c.lines.session.election bytes said c.queue.new.ballot) state next c.in_default.is (c.in_ok-said.ensures.queued (index + 1)))) c.queue.ensures.set;
      own = c.queue.ensures.election ∙ c.lines.invariant.own;
      writing = c.queue.ensures.writing ∙ c.lines.invariant.writing;
      counted = counts_line index c.lines.lines.room c.next_line.new.self.room (takes_room brought said.progress)
          c.lines.invariant.counted;
      no_fault = steady ∙ c.lines.invariant.no_fault;
      stands = c.lines.invariant.stands;
      others = c.lines.invariant.others;
      begun = c.lines.invariant.begun;
      leads = c.lines.invariant.leads;
    }

pub lines-preserved-in-Some : goal.lines-preserved-in-Some
lines-preserved-in-Some g c =
    let model = store_model g.Y.Store.closes g.M.Disks.disks in
    let old = input g.S.Source.left g.S.Source.faults c.args.script.now in
    let mid = input g.S.Source.left g.S.Source.faults c.lines.script in
    let new = input g.S.Source.left g.S.Source.faults c.next_line.new.source in
    let start = around (output g.K.Sink.taken g.K.Sink.faults c.args.out.now) c.args.disks.now c.args.report.now in
    let now = around (output g.K.Sink.taken g.K.Sink.faults c.lines.out) c.lines.disks c.lines.report in
    let after = around (output g.K.Sink.taken g.K.Sink.faults c.handle.new.out) c.handle.new.disks c.handle.new.report in
    let said = c.in_ok-next_line.ensures in
    let bytes = c.match-branch-2.line.now in
    let index = c.lines.index in
    let state = c.lines.session.state in
    let next = c.in_ok-session.session.state in
    let steady = no_fault said.fault in
    let own = c.queue.ensures.election ∙ c.lines.invariant.own in
    let writing = c.queue.ensures.writing ∙ c.lines.invariant.writing in
    let brought : IsBrought c.in_ok-next_line.field-0 c.next_line.new.self.line c.match-branch-2.line.now =
    elim c.match-branch-2.branch [
      | in-Whole w ↦ inl (w.in-Whole.is, ap (λ l. l.now) w.line-is ∙ w.line-line.ensures)
      | in-TooWide w ↦ inr (w.in-TooWide.is, ap (λ l. l.now) w.line-is)
    ] in
    record {
      read = handled model (written_of c.args.session.writing) c.args.session.election c.requires.election
          c.args.session.state state index c.lines.lines c.next_line.new.self old mid new start now
          c.lines.invariant.read c.lines.invariant.no_fault c.in_ok-next_line.field-0 said.answers steady bytes brought
          said.progress said.within_room next after
          (at_session (λ writing e state. IsHandled model (written_of writing) e (index + 1) state bytes next now after)
          writing own
          (not_queued c.in_ok-said.field-0 c.in-Some.said (AnswersBy (g.Y.Store.closes c.lines.session.election) c.lines.session.election (index + 1) state (Some bytes))
          (λ said. IsSaid c.lines.session.election bytes said c.queue.new.ballot) state c.queue.new.self.state c.in-Some.is (c.in_ok-said.ensures.queued (index + 1))).1
          c.in_ok-session.ensures.ends) c.handle.new.report.begun c.handle.ensures.rows;
      own = c.in_ok-session.ensures.election ∙ own;
      writing = c.in_ok-session.ensures.writing ∙ writing;
      counted = counts_line index c.lines.lines.room c.next_line.new.self.room (takes_room brought said.progress)
          c.lines.invariant.counted;
      no_fault = steady ∙ c.lines.invariant.no_fault;
      stands = stands_on model.disks c.args.disks.now c.lines.disks c.handle.new.disks c.lines.report.marks.items c.handle.new.report.marks.items c.lines.invariant.stands
          c.in_ok-session.ensures.stands;
      others = rows_then model.disks c.handle.new.disks c.handle.new.report.begun c.lines.report.marks.items c.handle.new.report.marks.items (rows_of c.lines.report) (rows_of c.handle.new.report)
          (subst (λ begun. AreRows model.disks begun c.lines.report.marks.items (rows_of c.lines.report)) (sym c.handle.ensures.begun) c.lines.invariant.others) c.handle.ensures.rows;
      begun = c.handle.ensures.begun ∙ c.lines.invariant.begun;
      leads = g.met.M.Disks.leads_on _ _ _ c.lines.invariant.leads c.handle.ensures.leads;
    }

pub returns-in_err-session-clause-others : goal.returns-in_err-session-clause-others
returns-in_err-session-clause-others g c =
    let disks = g.M.Disks.disks in
    let old = c.lines.report in
    let new = c.handle.new.report in
    rows_then disks c.handle.new.disks new.begun old.marks.items new.marks.items (rows_of old) (rows_of new)
    (subst (λ begun. AreRows disks begun old.marks.items (rows_of old)) (sym c.handle.ensures.begun) c.lines.invariant.others)
    c.handle.ensures.rows
