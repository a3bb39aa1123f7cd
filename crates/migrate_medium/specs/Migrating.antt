-- What a migration makes of an old medium and of a target. `from` and `since` are the disk of the old medium at the start
-- and at the end, `before` and `after` that of the target.
use Rattle.std.specs.Prelude.{◌≡◌, ◌≢◌, ◌⊎◌, ℕ, List, length, Some, IfSome}
use Rattle.checkpoint.specs.Unused.{IsInitRefused, IsUnusedOrHolds}
use Rattle.checkpoint.specs.declared.fresh.FillFault.{FillFault}
use Rattle.checkpoint.specs.declared.fresh.FillFault.TheVariants as fills
use Rattle.checkpoint.specs.declared.fresh.InitFault.TheVariants as inits
use Rattle.migrate_medium.specs.declared.fault.MigrateFault.{MigrateFault}
use Rattle.migrate_medium.specs.declared.fault.MigrateFault.TheVariants.{NoOldForm, Old, ToSize, ToInUse, ToFault, Memory}
use Rattle.outside_io.specs.Told.{AsTold}
use Rattle.recovery.specs.Refused.{IsRefusedMedium}
use Rattle.recovery.specs.declared.fault.RecoverFault.TheVariants as recover
use Rattle.store_spec.specs.Ballot.{Ballot}
use Rattle.store_spec.specs.Disk.{DiskModel, IsSettled, LeavesOnly, leaves_now}
use Rattle.store_spec.specs.Election.{Election, HasVersionOne, as_version_one}
use Rattle.store_spec.specs.Fault.{Rose}
use Rattle.store_spec.specs.Medium.{HoldsSet, IsMediumOf, IsUnused}

-- the fault of a target that is not filled
abbrev pub target_fault : FillFault → MigrateFault
target_fault (fills.WrongSize size) = ToSize size
target_fault fills.Exists = ToInUse
target_fault fills.DiskFault = ToFault

-- the old medium holds this set under the election in version 1, where it tells its bytes
abbrev pub OldHolds : {D : Type 0} → DiskModel D → Election → D → List Ballot → Type 0
OldHolds model e from set = IfSome (model.seen from) (λ bytes. HoldsSet (as_version_one e) bytes set)

-- the target was unused, and is the medium of the set that the old medium holds, so many ballots
pub record Migrates {A B : Type 0} (old : DiskModel A) (target : DiskModel B) (e : Election) (from : A) (before after : B) (count : ℕ) : Type 0 where
  pub form : HasVersionOne e
  pub set : List Ballot
  pub held : OldHolds old e from set
  pub unused : IfSome (target.seen before) (IsUnused e)
  pub count_is : length set ≡ count
  pub medium : AsTold target.seen before after (λ _ bytes. IsMediumOf e bytes set)
  pub settled : IsSettled target.seen target.calls target.may_leave after

-- Why the old medium gave no store under this election. Want of memory is told only where a bank of it is read.
abbrev pub OldRefuses : {D : Type 0} → DiskModel D → Election → D → D → MigrateFault → Type 0
OldRefuses model form from since (Old why) =
    IfSome (model.seen from) (λ bytes. IsRefusedMedium form bytes why) × (why ≢ recover.Memory)
    × (why ≡ recover.DiskFault → Rose (model.faults from) (model.faults since))
OldRefuses model form from since Memory = IfSome (model.seen from) (λ bytes. IsRefusedMedium form bytes recover.Memory)
OldRefuses model form from since fault = ⊥

-- the old medium holds a set, and the target is refused for this reason
abbrev pub TargetRefuses : {A B : Type 0} → DiskModel A → DiskModel B → Election → A → B → B → MigrateFault → Type 0
TargetRefuses old target e from before after (ToSize size) =
    ((set : List Ballot) × OldHolds old e from set) × IfSome (target.seen before) (λ bytes. IsInitRefused e bytes (inits.WrongSize size))
TargetRefuses old target e from before after ToInUse =
    ((set : List Ballot) × OldHolds old e from set) × IfSome (target.seen before) (λ bytes. IsInitRefused e bytes inits.Exists)
TargetRefuses old target e from before after ToFault =
    ((set : List Ballot) × OldHolds old e from set) × Rose (target.faults before) (target.faults after)
TargetRefuses old target e from before after fault = ⊥

-- Why no medium was made. Where the election has no form in version 1, the old medium is not touched.
abbrev pub MigrateRefuses : {A B : Type 0} → DiskModel A → DiskModel B → Election → A → A → B → B → MigrateFault → Type 0
MigrateRefuses old target e from since before after NoOldForm = (¬ HasVersionOne e) × (since ≡ from)
MigrateRefuses old target e from since before after (Old why) = HasVersionOne e × OldRefuses old (as_version_one e) from since (Old why)
MigrateRefuses old target e from since before after Memory = HasVersionOne e × OldRefuses old (as_version_one e) from since Memory
MigrateRefuses old target e from since before after fault = HasVersionOne e × TargetRefuses old target e from before after fault

-- Where the old medium is refused, or memory is wanting, no call is made on the target. Where the target is refused, it
-- gives what it gave, and a crash at any moment leaves what it might have left before.
abbrev pub IsSpared : {D : Type 0} → DiskModel D → D → D → MigrateFault → Type 0
IsSpared model before after NoOldForm = after ≡ before
IsSpared model before after (Old why) = after ≡ before
IsSpared model before after Memory = after ≡ before
IsSpared model before after ToFault = Unit {0}
IsSpared model before after fault =
    (model.seen after ≡ model.seen before)
    × ((bytes : List ℕ) → model.seen before ≡ Some bytes
    → LeavesOnly model.calls model.may_leave before after (leaves_now model.calls model.may_leave before))

-- These are the bytes that the target had, or it was unused, and these are so still or hold the set of the old medium.
abbrev pub IsKeptOrMigrated : {D : Type 0} → DiskModel D → Election → D → List ℕ → List ℕ → Type 0
IsKeptOrMigrated old e from bytes image =
    (image ≡ bytes) ⊎ (IsUnused e bytes × ((set : List Ballot) × OldHolds old e from set × IsUnusedOrHolds e set image))
