use Rattle.store_spec.proofs.Common.{disk_model}
use Rattle.twin_commands.proofs.Again.{brought_back}
use Rattle.twin_commands.proofs.laws.either_disk_is_enough.Goals as goal

pub returns : goal.returns
returns g c = brought_back (disk_model g.D.Disk.seen g.D.Disk.calls g.D.Disk.may_leave g.D.Disk.faults)
