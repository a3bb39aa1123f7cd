use Rattle.store_spec.proofs.Common.{disk_model}
use Rattle.twin_commands.proofs.Standing.{stands_at}
use Rattle.twin_commands.proofs.laws.a_stop_leaves_a_set_that_stands.Goals as goal

pub returns : goal.returns
returns g c = stands_at (disk_model g.D.Disk.seen g.D.Disk.calls g.D.Disk.may_leave g.D.Disk.faults)
