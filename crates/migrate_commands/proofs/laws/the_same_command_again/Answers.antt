use Rattle.migrate_commands.proofs.MigrateLaws.{again}
use Rattle.migrate_commands.proofs.laws.the_same_command_again.Goals as goal
use Rattle.store_spec.proofs.Common.{disk_model}

pub returns : goal.returns
returns g c = again (disk_model g.D.Disk.seen g.D.Disk.calls g.D.Disk.may_leave g.D.Disk.faults)
