use Rattle.std.proofs.Common.{◌≡◌, ◌≤◌, ◌-◌, ◌^◌, length, subst, sym, arith}
use Rattle.store_spec.proofs.Common.{disk_model, share}
use Rattle.parted_store.proofs.Slots.{medium_along}
use Rattle.parted_store.proofs.disks.Parts.new.Goals as goal
use Rattle.parted_store.specs.Slots.{models_of}
use Rattle.parted_store.specs.Views.{both_of}

pub returns-clause-media : goal.returns-clause-media
returns-clause-media g c e set are i within =
    let one = disk_model g.A.Disk.seen g.A.Disk.calls g.A.Disk.may_leave g.A.Disk.faults in
    let other = disk_model g.B.Disk.seen g.B.Disk.calls g.B.Disk.may_leave g.B.Disk.faults in
    let bits = g.P.PartCount.bits in
    let size : length c.args.more.now ≡ 2 ^ bits - 1 = omega (arith, c.requires) in
    medium_along (models_of one other i) both_of e (share bits i set) _ (are i (subst (λ n. i ≤ n) (sym size) within))
