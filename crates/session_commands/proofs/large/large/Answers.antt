use Rattle.std.proofs.Common.{rules, Some, Ok, Err, ap, refl, subst, sym}
use Rattle.store_spec.proofs.Common.{disk_model}
use Rattle.outside_io.specs.Outside.{input, output}
use Rattle.run_outcome.specs.declared.status.Status.{Status}
use Rattle.script_lines.specs.Script.{script_left}
use Rattle.session_commands.proofs.Generating.{large_played, reports_alone}
use Rattle.session_commands.specs.Large.{LargeEnds}
use Rattle.session_commands.specs.Session.{reported}
use Rattle.session_commands.proofs.large.large.Goals as goal

pub returns-in-Ok : goal.returns-in-Ok
returns-in-Ok g c =
    large_played (disk_model g.D.Disk.seen g.D.Disk.calls g.D.Disk.may_leave g.D.Disk.faults) c.args.election.now c.args.options
    (input (λ source. Some (script_left source)) (λ source. 0) c.in_ok-script.script) (input (λ source. Some (script_left source)) (λ source. 0) c.run_session.new.script)
    (Ok c.in-Ok.field-0) (reported c.args.report.now) (reported c.run_session.new.report)
    (output g.K.Sink.taken g.K.Sink.faults c.args.out.now) (output g.K.Sink.taken g.K.Sink.faults c.run_session.new.out) c.args.disk.now c.run_session.new.disk
    c.requires.election (search rules) c.requires.tabs (ap Some c.in_ok-script.ensures) refl refl c.requires.report (reports_alone c.args.report.now c.run_session.new.report c.requires.report c.run_session.ensures.others c.run_session.ensures.begun) c.in-Ok.ensures.ends

pub returns : goal.returns
returns g c =
    let model = disk_model g.D.Disk.seen g.D.Disk.calls g.D.Disk.may_leave g.D.Disk.faults in
    let old = output g.K.Sink.taken g.K.Sink.faults c.args.out.now in
    let new = output g.K.Sink.taken g.K.Sink.faults c.run_session.new.out in
    let report = reported c.run_session.new.report in
    subst (λ (a : Status). LargeEnds model c.args.election.now c.args.options a report old new c.args.disk.now c.run_session.new.disk) (sym c.status_of.ensures)
    (large_played model c.args.election.now c.args.options
    (input (λ source. Some (script_left source)) (λ source. 0) c.in_ok-script.script) (input (λ source. Some (script_left source)) (λ source. 0) c.run_session.new.script)
    (Err c.in-Err.fault) (reported c.args.report.now) report old new c.args.disk.now c.run_session.new.disk
    c.requires.election (search rules) c.requires.tabs (ap Some c.in_ok-script.ensures) refl refl c.requires.report (reports_alone c.args.report.now c.run_session.new.report c.requires.report c.run_session.ensures.others c.run_session.ensures.begun) c.in-Err.ensures.ends)
