use Rattle.store_spec.proofs.Common.{IsTrue}
use Rattle.crash_disk.proofs.Moments.{syncs_first}
use Rattle.crash_disk.proofs.laws.syncs_first.Goals as goal

pub returns : goal.returns
returns g c old new p q = syncs_first g.D.Disk.calls g.D.Disk.may_leave old new (λ image. IsTrue (p image)) (λ image. IsTrue (q image))
