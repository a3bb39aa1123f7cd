-- What the command `migrate` makes of an old medium and of a target. `old` and `new` are the sink before and after, `from`
-- and `since` the disk of the old medium at the start and at the end, and `before` and `after` that of the target.
use Rattle.std.specs.Prelude.{◌≡◌, ◌≢◌, ◌⊎◌, ℕ, List, [], ◌∷◌, codes, Some, is_some, true, false}
use Rattle.medium_commands.specs.Refused.{refused_status}
use Rattle.migrate_medium.specs.Migrating.{IsKeptOrMigrated, IsSpared, MigrateRefuses, Migrates}
use Rattle.migrate_medium.specs.declared.fault.MigrateFault.{MigrateFault}
use Rattle.migrate_medium.specs.declared.fault.MigrateFault.TheVariants as faults
use Rattle.outside_io.specs.Outside.{Output}
use Rattle.outside_io.specs.Stream.{TakesAll, TakesSome}
use Rattle.recovery.specs.ReadsOnly.{WritesNothing}
use Rattle.recovery.specs.declared.fault.RecoverFault.TheVariants as recover
use Rattle.run_outcome.specs.Row.{Content, EndsWell, IsOne, OfOne, Row}
use Rattle.run_outcome.specs.World.{Reported, World}
use Rattle.run_outcome.specs.declared.status.Status.{Status}
use Rattle.run_outcome.specs.declared.status.Status.TheVariants as status
use Rattle.store_spec.specs.Ballot.{Ballot}
use Rattle.store_spec.specs.Disk.{DiskModel, SyncsFirst}
use Rattle.store_spec.specs.Election.{Election, HasVersionOne, as_version_one}
use Rattle.store_spec.specs.Fault.{Rose}
use Rattle.store_spec.specs.Medium.{HoldsSet, IsUnused}
use Rattle.store_spec.specs.Session.{counted}

-- the line that tells how many ballots the target holds
abbrev pub migrated_text : ℕ → List ℕ
migrated_text count = counted (codes "migrated") count

-- the status of a target that was not filled: it is the first further medium
abbrev pub migrate_status : MigrateFault → Status
migrate_status faults.NoOldForm = status.NoOldForm
migrate_status (faults.Old why) = refused_status why
migrate_status (faults.ToSize size) = status.MediumSize 1 size
migrate_status faults.ToInUse = status.MediumInUse 1
migrate_status faults.ToFault = status.OtherDiskFault 1
migrate_status faults.Memory = status.Memory

-- the target is the medium of so many ballots, those of the old medium, and no disk failed
pub record IsMigrated {D : Type 0} (model : DiskModel D) (e : Election) (from since before after : D) (count : ℕ) : Type 0 where
  pub migrates : Migrates model model e from before after count
  pub old_steady : model.faults since ≡ model.faults from
  pub target_steady : model.faults after ≡ model.faults before

-- The target was not filled for this reason, and is spared as far as that allows. No count of faults rose but that of the
-- disk that failed.
pub record MigratesNot {D : Type 0} (model : DiskModel D) (e : Election) (from since before after : D) (fault : MigrateFault) : Type 0 where
  pub refuses : MigrateRefuses model model e from since before after fault
  pub spared : IsSpared model before after fault
  pub old_steady : fault ≢ faults.Old recover.DiskFault → model.faults since ≡ model.faults from
  pub target_steady : fault ≢ faults.ToFault → model.faults after ≡ model.faults before

-- it was not filled, and with this status
abbrev pub MigratesNone : {D : Type 0} → DiskModel D → Election → D → D → D → D → Status → Type 0
MigratesNone model e from since before after status =
    (fault : MigrateFault) × (status ≡ migrate_status fault) × MigratesNot model e from since before after fault

-- it was filled, and the sink took of the line that tells it what this says
pub record WritesMigrated {D : Type 0} (model : DiskModel D) (e : Election) (from since before after : D) (Takes : List ℕ → Type 0) : Type 0 where
  pub count : ℕ
  pub migrated : IsMigrated model e from since before after count
  pub takes : Takes (migrated_text count)

-- What becomes of the sink where a run of `migrate` ends so, and why it does. Memory may be wanting for the line alone.
abbrev pub MigrateWrites : {K D : Type 0} → DiskModel D → Election → Status → Output K → Output K → D → D → D → D → Type 0
MigrateWrites model e status.Ok old new from since before after =
    WritesMigrated model e from since before after (λ text. TakesAll old.taken text new.taken) × (new.faults ≡ old.faults)
MigrateWrites model e status.WriteFault old new from since before after =
    WritesMigrated model e from since before after (λ text. TakesSome old.taken text new.taken) × Rose old.faults new.faults
MigrateWrites model e status.Memory old new from since before after =
    (((count : ℕ) × IsMigrated model e from since before after count) ⊎ MigratesNone model e from since before after status.Memory)
    × (new ≡ old)
MigrateWrites model e other old new from since before after = MigratesNone model e from since before after other × (new ≡ old)

-- Where the target tells its bytes: until its first sync has returned a crash leaves what it might have left before. From
-- then on, where that sync succeeded, it leaves those bytes, or, only where they were unused, bytes that are so still or
-- hold the set of the old medium. Or no call was made.
abbrev pub FillsTarget : {D : Type 0} → DiskModel D → Election → D → D → D → Type 0
FillsTarget model e from before after = (bytes : List ℕ) → model.seen before ≡ Some bytes
    → (after ≡ before) ⊎ SyncsFirst model.calls model.may_leave before after (IsKeptOrMigrated model e from bytes)

-- All that a run of `migrate` promises under an election. Nothing is written to the old medium: a read gives what it
-- gave, and a crash at each moment leaves what it might have left before.
pub record MigrateEnds {K D : Type 0} (model : DiskModel D) (e : Election) (status : Status) (old new : Output K) (from since before after : D) : Type 0 where
  pub tells : MigrateWrites model e status old new from since before after
  pub crashes : FillsTarget model e from before after
  pub reads : WritesNothing model.seen model.calls model.may_leave from since
  pub told : is_some (model.seen after) ≡ is_some (model.seen before)

-- ---- the row

-- the target is unused
abbrev pub IsUnusedTarget : Election → List (List ℕ) → Type 0
IsUnusedTarget e (target ∷ []) = IsUnused e target
IsUnusedTarget e more = ⊥

-- the election has a form in version 1, and under it the bytes of a medium hold this set
abbrev pub HoldsOld : Election → List ℕ → List Ballot → Type 0
HoldsOld e bytes set = HasVersionOne e × HoldsSet (as_version_one e) bytes set

-- under that form the medium holds a set, and the target is unused
abbrev pub MayMigrate : Election → Content → Type 0
MayMigrate e content = ((set : List Ballot) × HoldsOld e content.disk set) × IsUnusedTarget e content.more

abbrev migrate_ends : {S K D : Type 0} → DiskModel D → Election → Status → Reported → World S K D → World S K D → Type 0
migrate_ends model e status report before after =
    OfOne (MigrateEnds model e status before.streams.sink after.streams.sink before.disk after.disk) before.more after.more

abbrev pub migrate_row : Row
migrate_row = record {
  word = codes "migrate";
  further = IsOne;
  touches = record { script = false; disk = true; more = true; report = false };
  served = MayMigrate;
  done = EndsWell;
  ends = migrate_ends;
}
