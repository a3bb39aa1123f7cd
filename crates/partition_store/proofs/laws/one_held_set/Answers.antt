use Rattle.std.proofs.Common.{◌≡◌, ◌⊎◌, ⊎_elim, List, Some, subst}
use Rattle.store_spec.proofs.Common.{Ballot, HoldsSet, leaves_now}
use Rattle.crash_disk.proofs.Moments.{weaker}
use Rattle.image_builder.proofs.Held.{one_held}
use Rattle.partition_store.proofs.laws.one_held_set.Goals as goal
use Rattle.recovery.specs.Refused.{HoldsSetOf}

pub returns : goal.returns
returns g c e old new bytes set valid sees start run =
    let here : HoldsSet e bytes set = start bytes (g.met.D.Disk.seen_is_crash_image old bytes sees) in
    weaker g.D.Disk.calls g.D.Disk.may_leave old new (λ image. leaves_now g.D.Disk.calls g.D.Disk.may_leave old image ⊎ HoldsSetOf e bytes image) (λ image. HoldsSet e image set)
    (λ image. ⊎_elim (start image)
    (λ holds.
    let both : Some holds.0 ≡ Some set = one_held e bytes (Some holds.0) (Some set) valid holds.1 here in
    let same : holds.0 ≡ set = cc in
    subst (λ (s : List Ballot). HoldsSet e image s) same holds.2))
    (run bytes sees)
