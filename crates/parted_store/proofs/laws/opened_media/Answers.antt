use Rattle.parted_store.proofs.Opened.{opened_media}
use Rattle.parted_store.proofs.laws.opened_media.Goals as goal
use Rattle.store_spec.proofs.Common.{disk_model}

pub returns : goal.returns
returns g c =
    opened_media (disk_model g.A.Disk.seen g.A.Disk.calls g.A.Disk.may_leave g.A.Disk.faults)
    (disk_model g.B.Disk.seen g.B.Disk.calls g.B.Disk.may_leave g.B.Disk.faults)
