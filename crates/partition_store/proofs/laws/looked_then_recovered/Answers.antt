use Rattle.partition_store.proofs.Opened.{Runs, all_run_behind, runs_behind}
use Rattle.partition_store.proofs.SideBySide.{zip_weaker}
use Rattle.partition_store.proofs.laws.looked_then_recovered.Goals as goal
use Rattle.partition_store.specs.Opening.{HoldsThroughout}
use Rattle.store_spec.proofs.Common.{disk_model}

pub returns-clause-first : goal.returns-clause-first
returns-clause-first g c e answer one after more now run =
    (runs_behind (disk_model g.A.Disk.seen g.A.Disk.calls g.A.Disk.may_leave g.A.Disk.faults) e one run.looked.0 after run.reads run.recovers).throughout

pub returns-clause-further : goal.returns-clause-further
returns-clause-further g c e answer one after more now run =
    let model = disk_model g.B.Disk.seen g.B.Disk.calls g.B.Disk.may_leave g.B.Disk.faults in
    zip_weaker (Runs model e) (HoldsThroughout model e) (λ x y runs. runs.throughout) more now
    (all_run_behind model e more run.looked.1 now run.others_read run.others_recover)
