use Rattle.store_spec.proofs.Common.{disk_model}
use Rattle.merge_media.proofs.Throughout.{kept_as_medium, recovered, spared}
use Rattle.merge_media.proofs.merging.begin.Goals as goal
use Rattle.merge_media.specs.Merging.{RefusesBegin}
use Rattle.merge_media.specs.declared.fault.MergeFault.TheVariants as faults
use Rattle.recovery.proofs.OneByOne.{handed_on}

pub returns-in-Err-Memory-clause-throughout : goal.returns-in-Err-Memory-clause-throughout
returns-in-Err-Memory-clause-throughout g c =
    let model = disk_model g.A.Disk.seen g.A.Disk.calls g.A.Disk.may_leave g.A.Disk.faults in
    spared model c.args.election.now c.args.disk.now c.recover.new.disk c.in-Err-Memory.field-0 c.in-Err-Memory.ensures.unharmed

pub returns-in-Err-clause-throughout : goal.returns-in-Err-clause-throughout
returns-in-Err-clause-throughout g c =
    let model = disk_model g.A.Disk.seen g.A.Disk.calls g.A.Disk.may_leave g.A.Disk.faults in
    spared model c.args.election.now c.args.disk.now c.recover.new.disk c.in-Err.why c.in-Err.ensures.unharmed

pub returns-in_err-add-clause-refused : goal.returns-in_err-add-clause-refused
returns-in_err-add-clause-refused g c =
    let model = disk_model g.A.Disk.seen g.A.Disk.calls g.A.Disk.may_leave g.A.Disk.faults in
    let e = c.args.election.now in
    let before = c.args.disk.now in
    let after = c.recover.new.disk in
    handed_on c.from_residual.result (RefusesBegin model e before after) faults.Memory c.from_residual.ensures.1
    (c.in-Ok.ensures.calls.fault.steady (λ failed. cc), kept_as_medium model e before after c.in-Ok.store.ballots c.in-Ok.ensures.held c.in-Ok.ensures.medium)

pub returns-in_err-add-clause-throughout : goal.returns-in_err-add-clause-throughout
returns-in_err-add-clause-throughout g c =
    let model = disk_model g.A.Disk.seen g.A.Disk.calls g.A.Disk.may_leave g.A.Disk.faults in
    recovered model c.args.election.now c.args.disk.now c.recover.new.disk c.in-Ok.store.ballots c.in-Ok.ensures.held c.in-Ok.ensures.any_moment

pub returns-clause-throughout : goal.returns-clause-throughout
returns-clause-throughout g c =
    let model = disk_model g.A.Disk.seen g.A.Disk.calls g.A.Disk.may_leave g.A.Disk.faults in
    recovered model c.args.election.now c.args.disk.now c.recover.new.disk c.in-Ok.store.ballots c.in-Ok.ensures.held c.in-Ok.ensures.any_moment
