use Rattle.std.proofs.Common.{◌⊎◌, ⊎_elim}
use Rattle.store_spec.proofs.Common.{IsTrue, leaves_now}
use Rattle.crash_disk.proofs.Moments.{weaker}
use Rattle.partition_store.proofs.laws.every_property.Goals as goal
use Rattle.recovery.specs.Refused.{HoldsSetOf}

pub returns : goal.returns
returns g c e old new bytes p sees start held run =
    weaker g.D.Disk.calls g.D.Disk.may_leave old new (λ image. leaves_now g.D.Disk.calls g.D.Disk.may_leave old image ⊎ HoldsSetOf e bytes image) (λ image. IsTrue (p image))
    (λ image. ⊎_elim (start image) (held image)) (run bytes sees)
