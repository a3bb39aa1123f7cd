-- What a checkpoint leaves of the disks of a store.
use Rattle.std.specs.Prelude.{◌≡◌, ◌⊎◌, ◌↔◌, ◌<◌, ◌≤◌, ℕ, List, Some, IfSome, is_some}
use Rattle.any_store.specs.Disks.{OnEach, StoreDisks, share_of}
use Rattle.any_store.specs.Disks.StoreDisks.{Alone, Parted}
use Rattle.store_spec.specs.Ballot.{Ballot}
use Rattle.store_spec.specs.Disk.{DiskModel, IsSettled, LeavesOnly}
use Rattle.store_spec.specs.Election.{Election}
use Rattle.store_spec.specs.Fault.{Rose}
use Rattle.store_spec.specs.Medium.{HoldsSet, IsMediumOf}

-- the disk is settled and is the medium of this set, where it tells
pub record IsMediumNow {D : Type 0} (model : DiskModel D) (e : Election) (set : List Ballot) (disk : D) : Type 0 where
  pub settled : IsSettled model.seen model.calls model.may_leave disk
  pub medium : IfSome (model.seen disk) (λ bytes. IsMediumOf e bytes set)

-- from the medium of one set on, each crash image of each moment holds that set or this one
abbrev pub HoldsEither : {D : Type 0} → DiskModel D → Election → List Ballot → D → D → Type 0
HoldsEither model e set old new =
    (bytes : List ℕ) (before : List Ballot) → model.seen old ≡ Some bytes → IsMediumOf e bytes before
    → LeavesOnly model.calls model.may_leave old new (λ image. HoldsSet e image before ⊎ HoldsSet e image set)

-- it ended well
pub record Checkpointed {D : Type 0} (model : DiskModel D) (e : Election) (set : List Ballot)
    (old new : D) : Type 0 where
  pub told : is_some (model.seen new) ≡ is_some (model.seen old)
  pub now : IsMediumNow model e set new
  pub crashes : HoldsEither model e set old new
  pub later : model.calls old ≤ model.calls new
  pub no_fault : model.faults new ≡ model.faults old

-- it was begun, however it ended
pub record Attempted {D : Type 0} (model : DiskModel D) (e : Election) (set : List Ballot)
    (old new : D) : Type 0 where
  pub told : is_some (model.seen new) ≡ is_some (model.seen old)
  pub crashes : HoldsEither model e set old new
  pub later : model.calls old ≤ model.calls new

-- ---- the disks of a store

-- each is the medium of its share of this set
abbrev pub AreMedia : {D : Type 0} → StoreDisks D → Election → List Ballot → D → Type 0
AreMedia disks e set now = OnEach disks (λ model share. IsMediumNow model e (share_of share set) now)

-- the checkpoint ended well on each
abbrev pub AreCheckpointed : {D : Type 0} → StoreDisks D → Election → List Ballot → D → D → Type 0
AreCheckpointed disks e set old new = OnEach disks (λ model share. Checkpointed model e (share_of share set) old new)

-- it failed on this one
pub record FailedOn {D : Type 0} (model : DiskModel D) (e : Election) (set : List Ballot)
    (old new : D) : Type 0 where
  pub attempted : Attempted model e set old new
  pub rose : Rose (model.faults old) (model.faults new)

-- this one was not called: its bytes, its counts and what a crash may leave at any moment stay
pub record IsUncalled {D : Type 0} (model : DiskModel D) (old new : D) : Type 0 where
  pub seen : model.seen new ≡ model.seen old
  pub calls : model.calls new ≡ model.calls old
  pub faults : model.faults new ≡ model.faults old
  pub images : (m : ℕ) (image : List ℕ) → model.may_leave new m image ↔ model.may_leave old m image

-- It failed on disk i of those from number 0 on: on each before that one it ended well, and none behind it was
-- called.
pub record FailedAt {D : Type 0} (more : ℕ) (models : ℕ → DiskModel D) (parts : ℕ → List Ballot → List Ballot)
    (e : Election) (set : List Ballot) (old new : D) (i : ℕ) : Type 0 where
  pub within : i ≤ more
  pub done : (j : ℕ) → j < i → Checkpointed (models j) e (parts j set) old new
  pub failed : FailedOn (models i) e (parts i set) old new
  pub uncalled : (j : ℕ) → i < j → j ≤ more → IsUncalled (models j) old new

-- it failed on one of the disks
abbrev pub FailsCheckpoint : {D : Type 0} → StoreDisks D → Election → List Ballot → D → D → Type 0
FailsCheckpoint (Alone model) e set old new = FailedOn model e set old new
FailsCheckpoint (Parted more models parts) e set old new = (i : ℕ) × FailedAt more models parts e set old new i
