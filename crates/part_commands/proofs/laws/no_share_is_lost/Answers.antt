use Rattle.part_commands.proofs.Standing.{none_lost}
use Rattle.part_commands.proofs.laws.no_share_is_lost.Goals as goal
use Rattle.store_spec.proofs.Common.{disk_model}

pub returns : goal.returns
returns g c = none_lost (disk_model g.D.Disk.seen g.D.Disk.calls g.D.Disk.may_leave g.D.Disk.faults)
