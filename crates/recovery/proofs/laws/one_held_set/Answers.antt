use Rattle.std.proofs.Common.{Some}
use Rattle.store_spec.proofs.Common.{HoldsSet, HoldsTheSame}
use Rattle.crash_disk.proofs.Moments.{syncs_first}
use Rattle.recovery.proofs.laws.one_held_set.Goals as goal

pub returns : goal.returns
returns g c e old new bytes set sees start =
    let here : HoldsSet e bytes set = start bytes (g.met.D.Disk.seen_is_crash_image old bytes sees) in
    syncs_first g.D.Disk.calls g.D.Disk.may_leave old new (λ image. HoldsSet e image set) (HoldsTheSame e bytes) start (λ image same. same (Some set) here)
