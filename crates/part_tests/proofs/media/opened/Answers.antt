use Rattle.std.proofs.Common.{◌≡◌, ◌≤◌, ℕ, List, length, sym, ap, subst, ◌∙◌}
use Rattle.store_spec.proofs.Common.{Ballot, DiskModel, Election, disk_model, example, share}
use Rattle.any_store.specs.Checkpointed.{IsMediumNow}
use Rattle.part_tests.proofs.media.opened.Goals as goal
use Rattle.parted_store.proofs.Opened.{opened_media}
use Rattle.parted_store.specs.Slots.{models_of}
use Rattle.partition_store.specs.Opening.{IsOpened}
use Rattle.partition_store.specs.Parted.{Parted, bits_of, joined}

-- the disks of two parts that were opened are the media of their set
media : {A B : Type 0} (one : DiskModel A) (other : DiskModel B) (e own : Election) (old new : A) (more now : List B) (store : Parted) → IsOpened one other e old new more now store
    → store.bits ≡ bits_of (length more) → length more ≡ 1 → own ≡ e
    → (set : List Ballot) × ((i : ℕ) → i ≤ length now → IsMediumNow (models_of one other i) own (share 1 i set) (new, now))
media one other e own old new more now store opened bits two same =
    let bits_are : store.bits ≡ 1 = bits ∙ ap bits_of two in (
      joined store.sets,
      λ i within.
          subst (λ (e : Election). IsMediumNow (models_of one other i) e (share 1 i (joined store.sets)) (new, now)) (sym same)
          (subst (λ bits. IsMediumNow (models_of one other i) e (share bits i (joined store.sets)) (new, now)) bits_are
          (opened_media one other e old new more now store opened i within)),
    )

pub returns-clause-media : goal.returns-clause-media
returns-clause-media g c =
    let one = disk_model g.A.Disk.seen g.A.Disk.calls g.A.Disk.may_leave g.A.Disk.faults in
    let other = disk_model g.B.Disk.seen g.B.Disk.calls g.B.Disk.may_leave g.B.Disk.faults in
    let opened = c.in_ok-store in
    media one other c.example.result example c.args.first.now c.open.new.disk c.args.more.now c.open.new.more opened.store opened.ensures.opened opened.ensures.bits c.requires (sym c.example.ensures)
