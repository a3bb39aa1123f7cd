use Rattle.run_command.proofs.Runs.{carried_out_whole}
use Rattle.store_spec.proofs.Common.{disk_model}
use Rattle.run_command.proofs.laws.a_served_command_is_carried_out.Goals as goal

pub returns : goal.returns
returns g c = carried_out_whole (disk_model g.D.Disk.seen g.D.Disk.calls g.D.Disk.may_leave g.D.Disk.faults)
