use Rattle.std.proofs.Common.{length, subst, sym}
use Rattle.store_spec.proofs.Common.{Election, disk_model}
use Rattle.any_store.specs.Checkpointed.{AreMedia}
use Rattle.part_tests.proofs.acknowledging.open_and_renew.Goals as goal
use Rattle.parted_store.specs.Slots.{parted_disks}

pub renew-requires-clause-media : goal.renew-requires-clause-media
renew-requires-clause-media g c =
    let one = disk_model g.A.Disk.seen g.A.Disk.calls g.A.Disk.may_leave g.A.Disk.faults in
    let other = disk_model g.B.Disk.seen g.B.Disk.calls g.B.Disk.may_leave g.B.Disk.faults in
    let media = c.in_ok-opened.ensures.media in
    let now = c.opened.new in
    (media.0, subst (λ (e : Election). AreMedia (parted_disks one other 1 (length now.more)) e media.0 (now.first, now.more)) (sym c.requires.election) media.1)
