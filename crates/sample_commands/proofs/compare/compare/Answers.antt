use Rattle.sample_commands.proofs.Sampling.{drawn_ascending, drawn_few}
use Rattle.store_spec.proofs.Common.{disk_model}
use Rattle.sample_commands.proofs.compare.compare.Goals as goal

pub new-requires-clause-ascending : goal.new-requires-clause-ascending
new-requires-clause-ascending g c =
    drawn_ascending (disk_model g.D.Disk.seen g.D.Disk.calls g.D.Disk.may_leave g.D.Disk.faults) c.args.election.now c.args.asked.now c.in_ok-records.records.items c.args.disk.now c.drawn.new.disk c.in_ok-records.ensures.drawn

pub new-requires-clause-few : goal.new-requires-clause-few
new-requires-clause-few g c =
    drawn_few (disk_model g.D.Disk.seen g.D.Disk.calls g.D.Disk.may_leave g.D.Disk.faults) c.args.election.now c.args.asked.now c.in_ok-records.records.items c.args.disk.now c.drawn.new.disk c.requires c.in_ok-records.ensures.drawn
