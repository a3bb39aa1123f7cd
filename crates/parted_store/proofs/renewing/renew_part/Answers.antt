use Rattle.any_store.proofs.Acknowledging as checkpoint
use Rattle.parted_store.proofs.renewing.renew_part.Goals as goal
use Rattle.store_spec.proofs.Common.{disk_model}

pub returns-clause-done : goal.returns-clause-done
returns-clause-done g c =
    let model = disk_model g.D.Disk.seen g.D.Disk.calls g.D.Disk.may_leave g.D.Disk.faults in
    let did = c.checkpoint.ensures in
    checkpoint.done model c.args.part.now.election c.args.part.now.ballots c.args.disk.now c.checkpoint.new.disk
    did.calls.told did.any_moment did.calls.later c.checkpoint.result did.calls.fault did.settled did.medium

pub returns-clause-failed : goal.returns-clause-failed
returns-clause-failed g c =
    let model = disk_model g.D.Disk.seen g.D.Disk.calls g.D.Disk.may_leave g.D.Disk.faults in
    let did = c.checkpoint.ensures in
    checkpoint.failed model c.args.part.now.election c.args.part.now.ballots c.args.disk.now c.checkpoint.new.disk
    did.calls.told did.any_moment did.calls.later c.checkpoint.result did.calls.fault
