use Rattle.std.proofs.Common.{ap, inr, map, sym, subst}
use Rattle.store_spec.proofs.Common.{disk_model}
use Rattle.outside_io.specs.Outside.{input, output}
use Rattle.outside_io.specs.Stream.{TakesAll}
use Rattle.phase_gate.specs.Around.{around, rows_of}
use Rattle.any_store.proofs.Acknowledging.{on_ok}
use Rattle.any_store.specs.Disks.StoreDisks.{Alone}
use Rattle.session_run.proofs.Marks.{stands_first, stood_now}
use Rattle.twin_commands.proofs.Behind.{goes_from}
use Rattle.twin_commands.proofs.twin.go_on.Goals as goal

pub returns-clause-goes_on : goal.returns-clause-goes_on
returns-clause-goes_on g c =
    let model = disk_model g.D.Disk.seen g.D.Disk.calls g.D.Disk.may_leave g.D.Disk.faults in
    let store = c.args.store in
    let mid = output g.K.Sink.taken g.K.Sink.faults c.write_all.new.self in
    let after = around (output g.K.Sink.taken g.K.Sink.faults c.play.new.out) c.play.new.disk c.play.new.report in
    let session = c.writing-session in
    let passed = sym c.if-is_err.ensures.value in
    inr (
      mid,
      subst (λ text. TakesAll (g.K.Sink.taken c.args.out.now) text (g.K.Sink.taken c.write_all.new.self)) c.line_of.ensures (on_ok c.write_all.result passed c.write_all.ensures.all),
      on_ok c.write_all.result passed c.write_all.ensures.fault.steady,
      goes_from model store.election session.result.election store.ballots session.result.writing session.result.state c.play.result (input g.S.Source.left g.S.Source.faults c.args.script.now) (input g.S.Source.left g.S.Source.faults c.play.new.script)
          mid c.args.disk.now c.args.report.now.marks.items (rows_of c.args.report.now) c.len.result after session.ensures.writing session.ensures.election session.ensures.begun c.requires.marks (ap (map (λ list. list.items)) c.requires.others) c.len.ensures.count c.play.ensures.ends,
    )

pub returns-then-is_err-clause-stood : goal.returns-then-is_err-clause-stood
returns-then-is_err-clause-stood g c =
    let model = disk_model g.D.Disk.seen g.D.Disk.calls g.D.Disk.may_leave g.D.Disk.faults in
    let disk = c.args.disk.now in
    stood_now (Alone model) g.D.Disk.leads_to g.met.D.Disk.leads_to_itself disk disk _ (g.met.D.Disk.leads_to_itself disk) (stands_first (Alone model) disk _ c.requires.marks)
