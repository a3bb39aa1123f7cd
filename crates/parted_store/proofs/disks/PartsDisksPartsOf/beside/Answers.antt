use Rattle.std.proofs.Common.{◌≡◌, ◌-◌, ◌^◌, ◌∙◌, length, arith}
use Rattle.store_spec.proofs.Common.{disk_model}
use Rattle.parted_store.proofs.Lifting.{further_row}
use Rattle.parted_store.proofs.disks.PartsDisksPartsOf.beside.Goals as goal

pub returns : goal.returns
returns g c =
    let one = disk_model g.A.Disk.seen g.A.Disk.calls g.A.Disk.may_leave g.A.Disk.faults in
    let other = disk_model g.B.Disk.seen g.B.Disk.calls g.B.Disk.may_leave g.B.Disk.faults in
    let disks = c.args.self.now in
    let size : length disks.more.now ≡ 2 ^ g.P.PartCount.bits - 1 = omega (arith, disks.many) in
    c.put_calls.ensures ∙ further_row one other disks.first.now disks.more.now (2 ^ g.P.PartCount.bits - 1) size
