use Rattle.part_commands.proofs.Again.{ends_well, opened}
use Rattle.part_commands.proofs.laws.parts_of_two_sets_open.Goals as goal
use Rattle.store_spec.proofs.Common.{disk_model}

pub returns-clause-opens : goal.returns-clause-opens
returns-clause-opens g c = opened (disk_model g.D.Disk.seen g.D.Disk.calls g.D.Disk.may_leave g.D.Disk.faults)

pub returns-clause-ends : goal.returns-clause-ends
returns-clause-ends g c = ends_well (disk_model g.D.Disk.seen g.D.Disk.calls g.D.Disk.may_leave g.D.Disk.faults)
