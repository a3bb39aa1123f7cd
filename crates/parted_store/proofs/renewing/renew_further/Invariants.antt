use Rattle.store_spec.proofs.Common.{AllZip, disk_model}
use Rattle.parted_store.proofs.Stepping.{AreStill}
use Rattle.parted_store.proofs.renewing.renew_further.Given as goal
use Rattle.parted_store.specs.Stops.{AreRenewed}

-- the disks before this one were renewed, and those from it on are as they were
abbrev pub invariant-disks : goal.invariant-disks
invariant-disks g l = record {
  done : AreRenewed (disk_model g.B.Disk.seen g.B.Disk.calls g.B.Disk.may_leave g.B.Disk.faults)
      l.store.election l.store.sets l.place l.initial.more l.more;
  still : AreStill l.place l.initial.more l.more;
  leads : AllZip g.B.Disk.leads_to l.initial.more l.more;
}
