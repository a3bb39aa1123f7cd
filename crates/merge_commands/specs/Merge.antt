-- What the command `merge` makes of a target and of further media. `old` and `new` are the sink before and after, `before`
-- and `after` the target's disk, and `more` and `now` those of the further media.
use Rattle.std.specs.Prelude.{◌≡◌, ◌⊎◌, ℕ, ◌≤◌, List, ◌∷◌, codes, length, Some, is_some, true, false}
use Rattle.std.specs.List.{AllZip}
use Rattle.medium_commands.specs.Refused.{refused_status}
use Rattle.medium_commands.specs.Several.{MediaHold}
use Rattle.merge_media.specs.Merging.{HoldsOldOrUnion, IsTargetKept, MergeRefuses, Merges, MergesThroughout}
use Rattle.merge_media.specs.Union.{IsUnion}
use Rattle.merge_media.specs.declared.fault.MergeFault.{MergeFault}
use Rattle.merge_media.specs.declared.fault.MergeFault.TheVariants as faults
use Rattle.outside_io.specs.Outside.{Output}
use Rattle.outside_io.specs.Stream.{TakesAll, TakesSome}
use Rattle.outside_io.specs.Told.{AsTold}
use Rattle.recovery.specs.Media.{EachHolds, NoneRose}
use Rattle.recovery.specs.ReadsOnly.{WritesNothing}
use Rattle.recovery.specs.declared.fault.RecoverFault.TheVariants as recover
use Rattle.run_outcome.specs.Row.{Content, EndsWell, Row}
use Rattle.run_outcome.specs.World.{Reported, World}
use Rattle.run_outcome.specs.declared.status.Status.{Status}
use Rattle.run_outcome.specs.declared.status.Status.TheVariants as status
use Rattle.store_spec.specs.Ballot.{Ballot, IsWithinLimit}
use Rattle.store_spec.specs.Disk.{DiskModel, SyncsFirst}
use Rattle.store_spec.specs.Election.{Election}
use Rattle.store_spec.specs.Fault.{Rose}
use Rattle.store_spec.specs.Medium.{HoldsSet, IsMediumOf}
use Rattle.store_spec.specs.Session.{counted}

-- the line that tells how many ballots the target holds
abbrev pub merged_text : ℕ → List ℕ
merged_text count = counted (codes "merged") count

-- the status of media that are not merged
abbrev pub merge_status : MergeFault → Status
merge_status (faults.Target why) = refused_status why
merge_status (faults.OtherFault index) = status.OtherDiskFault index
merge_status (faults.Other index why) = status.BadMedium index why
merge_status (faults.Dispute number) = status.MergeConflict number
merge_status (faults.TooMany count) = status.MergeFull count
merge_status faults.DiskFault = status.DiskFault
merge_status faults.Memory = status.Memory

-- the bytes are as before, or became the medium of the set that they held, or of the union of all media
abbrev pub IsKeptOrMerged : {D : Type 0} → DiskModel D → Election → List D → List ℕ → List ℕ → Type 0
IsKeptOrMerged model e more x y =
    IsTargetKept e x y
    ⊎ ((set : List Ballot) × (sets : List (List Ballot)) × HoldsSet e x set × EachHolds model e more sets × (union : List Ballot) × IsUnion (set ∷ sets) union × IsMediumOf e y union)

-- The media were not merged, and with this status. Memory may also run out behind the merge, for the line that tells it.
abbrev pub MergesNone : {D : Type 0} → DiskModel D → Election → Status → D → D → List D → List D → Type 0
MergesNone model e status.NoStore before after more now = MergeRefuses model model e before after more now (faults.Target recover.NoStore)
MergesNone model e (status.OtherElection header) before after more now = MergeRefuses model model e before after more now (faults.Target (recover.OtherElection header))
MergesNone model e (status.Damaged cell) before after more now = MergeRefuses model model e before after more now (faults.Target (recover.Damaged cell))
MergesNone model e (status.OtherDiskFault index) before after more now = MergeRefuses model model e before after more now (faults.OtherFault index)
MergesNone model e (status.BadMedium index why) before after more now = MergeRefuses model model e before after more now (faults.Other index why)
MergesNone model e (status.MergeConflict number) before after more now = MergeRefuses model model e before after more now (faults.Dispute number)
MergesNone model e (status.MergeFull count) before after more now = MergeRefuses model model e before after more now (faults.TooMany count)
MergesNone model e status.DiskFault before after more now =
    MergeRefuses model model e before after more now (faults.Target recover.DiskFault) ⊎ MergeRefuses model model e before after more now faults.DiskFault
MergesNone model e status.Memory before after more now =
    (model.faults after ≡ model.faults before) × NoneRose model more now × AsTold model.seen before after (IsKeptOrMerged model e more)
MergesNone model e other before after more now = ⊥

-- the target is the medium of the union, of whose line the sink took what this says
pub record WritesMerged {D : Type 0} (model : DiskModel D) (e : Election) (before after : D) (more now : List D) (Takes : List ℕ → Type 0) : Type 0 where
  pub count : ℕ
  pub merges : Merges model model e before after more now count
  pub takes : Takes (merged_text count)

-- what becomes of the sink where a run of `merge` ends so, and why it does
abbrev pub MergeWrites : {K D : Type 0} → DiskModel D → Election → Status → Output K → Output K → D → D → List D → List D → Type 0
MergeWrites model e status.Ok old new before after more now =
    WritesMerged model e before after more now (λ text. TakesAll old.taken text new.taken) × (new.faults ≡ old.faults)
MergeWrites model e status.WriteFault old new before after more now =
    WritesMerged model e before after more now (λ text. TakesSome old.taken text new.taken) × Rose old.faults new.faults
MergeWrites model e other old new before after more now = MergesNone model e other before after more now × (new ≡ old)

-- Where the target held a set: until its first sync has returned a crash leaves what it might have left before. From then
-- on, where that sync succeeded, it leaves bytes that hold that set or the union. Or no call was made.
abbrev pub KeepsOldOrUnion : {D : Type 0} → DiskModel D → Election → D → D → List D → Type 0
KeepsOldOrUnion model e before after more =
    (after ≡ before)
    ⊎ ((bytes : List ℕ) (set : List Ballot) → model.seen before ≡ Some bytes → HoldsSet e bytes set
    → SyncsFirst model.calls model.may_leave before after (HoldsOldOrUnion model e set more))

-- All that a run of `merge` promises under an election. At each moment the target holds its old set or the union, or what it
-- might have held before. Nothing is written to the further media: of each a read gives what
-- it gave, and a crash at each moment leaves what it might have left before.
pub record MergeEnds {K D : Type 0} (model : DiskModel D) (e : Election) (status : Status) (old new : Output K) (before after : D) (more now : List D) : Type 0 where
  pub tells : MergeWrites model e status old new before after more now
  pub crashes : KeepsOldOrUnion model e before after more
  pub throughout : MergesThroughout model model e before after more
  pub reads : AllZip (WritesNothing model.seen model.calls model.may_leave) more now
  pub told : is_some (model.seen after) ≡ is_some (model.seen before)

-- ---- the row

-- one medium more, and up to eight
pub record AreFew (words : List (List ℕ)) : Type 0 where
  pub some : 1 ≤ length words
  pub few : length words ≤ 8

-- the sets have a union, which the election's store may hold
pub record HaveUnion (e : Election) (sets : List (List Ballot)) : Type 0 where
  pub union : List Ballot
  pub is : IsUnion sets union
  pub within_limit : IsWithinLimit e union

abbrev AllHaveUnion : Election → Content → Type 0
AllHaveUnion e content = MediaHold e content (HaveUnion e)

abbrev merge_ends : {S K D : Type 0} → DiskModel D → Election → Status → Reported → World S K D → World S K D → Type 0
merge_ends model e status report before after =
    MergeEnds model e status before.streams.sink after.streams.sink before.disk after.disk before.more after.more

abbrev pub merge_row : Row
merge_row = record {
  word = codes "merge";
  further = AreFew;
  touches = record { script = false; disk = true; more = true; report = false };
  served = AllHaveUnion;
  done = EndsWell;
  ends = merge_ends;
}
