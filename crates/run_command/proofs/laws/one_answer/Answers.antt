use Rattle.run_command.proofs.Runs.{one_answer}
use Rattle.store_spec.proofs.Common.{disk_model}
use Rattle.run_command.proofs.laws.one_answer.Goals as goal

pub returns : goal.returns
returns g c = one_answer (disk_model g.D.Disk.seen g.D.Disk.calls g.D.Disk.may_leave g.D.Disk.faults)
