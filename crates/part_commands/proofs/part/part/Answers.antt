use Rattle.std.proofs.Common.{inr, sym, subst}
use Rattle.store_spec.proofs.Common.{Election, disk_model, share}
use Rattle.any_store.specs.Checkpointed.{IsMediumNow}
use Rattle.outside_io.specs.Outside.{input, output}
use Rattle.part_commands.proofs.Opening.{has_begun, no_memory}
use Rattle.part_commands.proofs.part.part.Goals as goal
use Rattle.part_commands.specs.Handled.{Handles}
use Rattle.part_commands.specs.Part.{PartEnds}
use Rattle.parted_store.specs.Slots.{models_of}
use Rattle.partition_store.specs.Parted.{joined}
use Rattle.run_outcome.proofs.Laws.{ended_with}
use Rattle.run_outcome.specs.Status.{ended}
use Rattle.run_outcome.specs.declared.status.Status.TheVariants.{Memory}
use Rattle.session_commands.specs.Session.{reported}

pub returns-in_err-scratch : goal.returns-in_err-scratch
returns-in_err-scratch g c =
    let model = disk_model g.D.Disk.seen g.D.Disk.calls g.D.Disk.may_leave g.D.Disk.faults in
    let e = c.args.election.now in
    let report = reported c.args.report.now in
    let old = input g.S.Source.left g.S.Source.faults c.args.script.now in
    let sink = output g.K.Sink.taken g.K.Sink.faults c.args.out.now in
    ended_with c.from_residual.result Memory (λ a. PartEnds model e a report old old sink sink c.args.disk.now c.args.disk.now c.args.more.now c.args.more.now) c.from_residual.ensures.1
    (no_memory model e report old sink c.args.disk.now c.args.more.now c.requires.report)

pub returns-in_err-lines : goal.returns-in_err-lines
returns-in_err-lines g c =
    let model = disk_model g.D.Disk.seen g.D.Disk.calls g.D.Disk.may_leave g.D.Disk.faults in
    let e = c.args.election.now in
    let report = reported c.args.report.now in
    let old = input g.S.Source.left g.S.Source.faults c.args.script.now in
    let sink = output g.K.Sink.taken g.K.Sink.faults c.args.out.now in
    ended_with c.from_residual-in_err-lines.result Memory (λ a. PartEnds model e a report old old sink sink c.args.disk.now c.args.disk.now c.args.more.now c.args.more.now) c.from_residual-in_err-lines.ensures.1
    (no_memory model e report old sink c.args.disk.now c.args.more.now c.requires.report)

pub handle_parts-requires-clause-media : goal.handle_parts-requires-clause-media
handle_parts-requires-clause-media g c κs within i few =
    let model = disk_model g.D.Disk.seen g.D.Disk.calls g.D.Disk.may_leave g.D.Disk.faults in
    let store = c.in-Ok.store in
    let opened = c.in-Ok.ensures.opened in
    subst (λ (e : Election). IsMediumNow (models_of model model i) e (share store.bits i (joined store.sets)) (c.open.new.disk, c.open.new.more)) (sym opened.election)
    (c.opened_media.ensures c.args.election.now c.args.disk.now c.open.new.disk c.args.more.now c.open.new.more store opened i few)

pub returns : goal.returns
returns g c =
    let model = disk_model g.D.Disk.seen g.D.Disk.calls g.D.Disk.may_leave g.D.Disk.faults in
    let e = c.args.election.now in
    let one = c.args.disk.now in
    let ready = c.open.new.disk in
    let after = c.handle_parts.new.disk in
    let more = c.args.more.now in
    let ready_more = c.open.new.more in
    let now = c.handle_parts.new.more in
    let store = c.in-Ok.store in
    let did = c.in-Ok.ensures in
    let a = ended c.handle_parts.result in
    let report = reported c.handle_parts.new.report in
    let old = input g.S.Source.left g.S.Source.faults c.args.script.now in
    let new = input g.S.Source.left g.S.Source.faults c.handle_parts.new.script in
    let sink = output g.K.Sink.taken g.K.Sink.faults c.args.out.now in
    let sunk = output g.K.Sink.taken g.K.Sink.faults c.handle_parts.new.out in
    inr (has_begun model e one ready after more ready_more now store c.requires.election did.opened did.looked did.any_moment did.others_at_any_moment did.bits a report old new sink sunk
    (subst (λ (e : Election). Handles model e (joined store.sets) a report old new sink sunk ready after ready_more now) did.opened.election c.handle_parts.ensures))
