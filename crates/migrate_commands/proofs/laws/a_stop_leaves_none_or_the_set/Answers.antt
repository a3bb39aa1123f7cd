use Rattle.migrate_commands.proofs.Stops.{left_holds, left_unused}
use Rattle.migrate_commands.proofs.laws.a_stop_leaves_none_or_the_set.Goals as goal
use Rattle.store_spec.proofs.Common.{disk_model}

pub returns-clause-holds : goal.returns-clause-holds
returns-clause-holds g c e from before after medium bytes set valid reads old sees none fills =
    left_holds (disk_model g.D.Disk.seen g.D.Disk.calls g.D.Disk.may_leave g.D.Disk.faults) e from before after medium bytes set valid reads old sees (g.met.D.Disk.seen_is_crash_image before bytes sees) fills none

pub returns-clause-unused : goal.returns-clause-unused
returns-clause-unused g c e from before after medium bytes set valid reads old sees unused fills =
    left_unused (disk_model g.D.Disk.seen g.D.Disk.calls g.D.Disk.may_leave g.D.Disk.faults) e from before after medium bytes set valid reads old sees (g.met.D.Disk.seen_is_crash_image before bytes sees) fills unused
