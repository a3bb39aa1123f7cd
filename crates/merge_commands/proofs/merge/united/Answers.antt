use Rattle.store_spec.proofs.Common.{disk_model}
use Rattle.merge_commands.proofs.Merged.{none_begun}
use Rattle.merge_commands.proofs.merge.united.Goals as goal
use Rattle.merge_commands.specs.Merge.{MergesNone}
use Rattle.merge_media.proofs.Throughout.{nothing_merged}
use Rattle.recovery.proofs.OneByOne.{handed_on, zip_same}
use Rattle.recovery.proofs.OnlyReading.{nothing_called}
use Rattle.recovery.specs.ReadsOnly.{WritesNothing}
use Rattle.run_outcome.specs.declared.status.Status.TheVariants as status

pub returns-in_err-scratch-clause-reads : goal.returns-in_err-scratch-clause-reads
returns-in_err-scratch-clause-reads g c =
    zip_same (WritesNothing g.D.Disk.seen g.D.Disk.calls g.D.Disk.may_leave) (nothing_called g.D.Disk.seen g.D.Disk.calls g.D.Disk.may_leave) c.args.more.now

pub returns-in_err-scratch-clause-refused : goal.returns-in_err-scratch-clause-refused
returns-in_err-scratch-clause-refused g c =
    let model = disk_model g.D.Disk.seen g.D.Disk.calls g.D.Disk.may_leave g.D.Disk.faults in
    let e = c.args.election.now in
    let disk = c.args.disk.now in
    let more = c.args.more.now in
    handed_on c.from_residual.result (λ ended. MergesNone model e ended disk disk more more) status.Memory c.from_residual.ensures.1 (none_begun model e disk more)

pub returns-in_err-scratch-clause-throughout : goal.returns-in_err-scratch-clause-throughout
returns-in_err-scratch-clause-throughout g c =
    let model = disk_model g.D.Disk.seen g.D.Disk.calls g.D.Disk.may_leave g.D.Disk.faults in
    nothing_merged model model c.args.election.now c.args.disk.now c.args.more.now
