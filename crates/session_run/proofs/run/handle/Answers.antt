use Rattle.std.proofs.Common.{◌≤◌, ◌∙◌, ap, sym, subst, List, ℕ}
use Rattle.std.specs.Prelude.{All, OnOk, vec_capacity}
use Rattle.outside_io.specs.Outside.{output}
use Rattle.phase_gate.specs.Around.{around}
use Rattle.any_store.specs.Beside.{row_width}
use Rattle.any_store.specs.Disks.{first_of, store_model}
use Rattle.phase_gate.specs.LineEnds.{state_left}
use Rattle.phase_gate.specs.Writing.{written_of}
use Rattle.session_run.proofs.Handling.{before, ended, rows}
use Rattle.session_run.proofs.Marks.{handled, line_stood, on_left, stands_now, stood_now}
use Rattle.session_run.proofs.run.handle.Goals as goal
use Rattle.session_run.specs.History.{Stands, Stood}

-- ---- the report before and behind the line

pub complete-requires-clause-before : goal.complete-requires-clause-before
complete-requires-clause-before g c =
    let model = store_model g.Y.Store.closes g.M.Disks.disks in
    before model (written_of c.args.session.writing) c.args.session.election c.args.index c.args.session.state c.args.line.now
    (output g.K.Sink.taken g.K.Sink.faults c.args.out.now)
    (output g.K.Sink.taken g.K.Sink.faults c.line_by-answer.new.out)
    c.args.disks.now c.line_by-answer.new.disks c.args.report.now c.room.new.self c.line_by-answer.new.report
    (state_left (λ session. session.state) c.line_by-answer.result) c.room.ensures.marks c.room.ensures.others
    c.room.ensures.held c.line_by-answer.ensures.others c.line_by-answer.ensures.ends c.requires.others

pub complete-requires-clause-list : goal.complete-requires-clause-list
complete-requires-clause-list g c =
    let begun = c.line_by-answer.ensures.begun ∙ c.room.ensures.begun in
    subst (λ begun. row_width g.M.Disks.disks begun ≤ vec_capacity c.in_ok-list.list) (sym begun)
    (subst (λ n. n ≤ vec_capacity c.in_ok-list.list) c.width.ensures c.in_ok-list.ensures.list)

pub returns-clause-rows : goal.returns-clause-rows
returns-clause-rows g c =
    let model = store_model g.Y.Store.closes g.M.Disks.disks in
    rows model (written_of c.args.session.writing) c.args.session.election c.args.index c.args.session.state c.args.line.now
    (output g.K.Sink.taken g.K.Sink.faults c.args.out.now)
    (output g.K.Sink.taken g.K.Sink.faults c.line_by-answer.new.out)
    c.args.disks.now c.line_by-answer.new.disks c.args.report.now c.room.new.self c.line_by-answer.new.report
    (state_left (λ session. session.state) c.line_by-answer.result) c.room.ensures.marks c.room.ensures.others
    c.room.ensures.held c.line_by-answer.ensures.others c.line_by-answer.ensures.ends c.requires.others
    c.complete.new.self c.complete.ensures.marks c.complete.ensures.held c.complete.ensures.rows

pub returns-clause-ends : goal.returns-clause-ends
returns-clause-ends g c =
    let model = store_model g.Y.Store.closes g.M.Disks.disks in
    ended model (written_of c.args.session.writing) c.args.session.election c.args.index c.args.session.state c.args.line.now
    (output g.K.Sink.taken g.K.Sink.faults c.args.out.now)
    (output g.K.Sink.taken g.K.Sink.faults c.line_by-answer.new.out)
    c.args.disks.now c.line_by-answer.new.disks c.args.report.now c.room.new.self c.line_by-answer.new.report
    (state_left (λ session. session.state) c.line_by-answer.result) c.room.ensures.marks c.room.ensures.others
    c.room.ensures.held c.line_by-answer.ensures.others c.line_by-answer.ensures.ends c.requires.others
    c.complete.new.self c.complete.ensures.marks c.complete.ensures.held c.complete.ensures.rows

-- ---- marks and faults

pub returns-clause-stands : goal.returns-clause-stands
returns-clause-stands g c =
    let model = store_model g.Y.Store.closes g.M.Disks.disks in
    let before = around (output g.K.Sink.taken g.K.Sink.faults c.args.out.now) c.args.disks.now c.room.new.self in
    let after = around (output g.K.Sink.taken g.K.Sink.faults c.line_by-answer.new.out) c.line_by-answer.new.disks c.line_by-answer.new.report in
    let P : List ℕ → Type 0 = λ marks. Stands model.disks c.args.disks.now c.line_by-answer.new.disks marks in
    let all = subst (λ marks. All (λ mark. mark ≤ (first_of g.M.Disks.disks).calls c.args.disks.now) marks) (ap (λ v. v.items) (sym c.room.ensures.marks)) c.requires.marks in
    on_left (λ session. session.state) (P c.complete.new.self.marks.items) c.line_by-answer.result
    (subst (λ marks. OnOk (state_left (λ session. session.state) c.line_by-answer.result) (P marks)) (ap (λ v. v.items) (sym c.complete.ensures.marks))
    (handled model (written_of c.args.session.writing) c.args.session.election c.args.index c.args.session.state c.args.line.now before after all
    (state_left (λ session. session.state) c.line_by-answer.result) c.line_by-answer.ensures.ends))

pub returns-clause-stood : goal.returns-clause-stood
returns-clause-stood g c =
    let model = store_model g.Y.Store.closes g.M.Disks.disks in
    let before = around (output g.K.Sink.taken g.K.Sink.faults c.args.out.now) c.args.disks.now c.room.new.self in
    let after = around (output g.K.Sink.taken g.K.Sink.faults c.line_by-answer.new.out) c.line_by-answer.new.disks c.line_by-answer.new.report in
    let all = subst (λ marks. All (λ mark. mark ≤ (first_of g.M.Disks.disks).calls c.args.disks.now) marks) (ap (λ v. v.items) (sym c.room.ensures.marks)) c.requires.marks in
    subst (λ marks. Stood model.disks g.M.Disks.leads_to c.args.disks.now c.line_by-answer.new.disks marks) (ap (λ v. v.items) (sym c.complete.ensures.marks))
    (line_stood model (written_of c.args.session.writing) c.args.session.election c.args.index c.args.session.state c.args.line.now before after all
    g.M.Disks.leads_to g.met.M.Disks.leads_to_itself c.line_by-answer.ensures.leads (state_left (λ session. session.state) c.line_by-answer.result) c.line_by-answer.ensures.ends)

pub returns-in_err-list-clause-stood : goal.returns-in_err-list-clause-stood
returns-in_err-list-clause-stood g c =
    let model = store_model g.Y.Store.closes g.M.Disks.disks in
    let disk = c.args.disks.now in
    let all = subst (λ marks. All (λ mark. mark ≤ (first_of g.M.Disks.disks).calls disk) marks) (ap (λ v. v.items) (sym c.room.ensures.marks)) c.requires.marks in
    stood_now model.disks g.M.Disks.leads_to g.met.M.Disks.leads_to_itself disk disk c.room.new.self.marks.items (g.met.M.Disks.leads_to_itself disk) (stands_now model.disks disk c.room.new.self.marks.items all)
