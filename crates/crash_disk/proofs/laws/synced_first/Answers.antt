use Rattle.store_spec.proofs.Common.{IsTrue}
use Rattle.crash_disk.proofs.Moments.{synced_first}
use Rattle.crash_disk.proofs.laws.synced_first.Goals as goal

pub returns : goal.returns
returns g c old synced new p = synced_first g.D.Disk.calls g.D.Disk.may_leave old synced new (λ image. IsTrue (p image))
