use Rattle.store_spec.proofs.Common.{HoldsTheSame, IsTrue}
use Rattle.crash_disk.proofs.Moments.{syncs_first}
use Rattle.recovery.proofs.laws.every_property.Goals as goal

pub returns : goal.returns
returns g c e old new bytes p = syncs_first g.D.Disk.calls g.D.Disk.may_leave old new (λ image. IsTrue (p image)) (HoldsTheSame e bytes)
