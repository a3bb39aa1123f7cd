-- What the command `part` makes of a script and of the media of all parts. `one` and `after` are the first disk before and
-- after, and `more` and `now` the further ones.
use Rattle.std.specs.Prelude.{◌≡◌, ◌⊎◌, ℕ, zero, suc, ◌≤◌, EachIndex, List, [], codes, get_or, length, Option, Some, None, Result, Err, slice_get, true}
use Rattle.std.specs.List.{AllZip}
use Rattle.any_store.specs.Disks.{StoreModel, store_model}
use Rattle.medium_commands.specs.Refused.{refused_status}
use Rattle.medium_commands.specs.Several.{MediaHold}
use Rattle.outside_io.specs.Outside.{Input, Output}
use Rattle.parted_store.specs.Leads.{PartFails}
use Rattle.parted_store.specs.Slots.{models_of, parted_disks}
use Rattle.partition_store.specs.Opening.{IsAgainst, LeavesOf, LooksThenRecovers, WritesBehindLooks}
use Rattle.partition_store.specs.Parted.{AreFurther, BelongsTo, Parted, bits_of}
use Rattle.partition_store.specs.declared.fault.PartFault.{PartFault}
use Rattle.partition_store.specs.declared.fault.PartFault.TheVariants as faults
use Rattle.recovery.specs.Faults.{medium_fault}
use Rattle.recovery.specs.Media.{NoneRose}
use Rattle.recovery.specs.ReadsOnly.{WritesNothing}
use Rattle.run_outcome.specs.Row.{Content, EndsWell, Row}
use Rattle.run_outcome.specs.Status.{ended_as}
use Rattle.run_outcome.specs.World.{Reported, World, nothing_reported}
use Rattle.run_outcome.specs.declared.status.Status.{Status}
use Rattle.run_outcome.specs.declared.status.Status.TheVariants as status
use Rattle.session_commands.specs.Session.{run_status, with_report}
use Rattle.session_run.specs.Ends.{BegunWith}
use Rattle.session_run.specs.History.{HoldsOne}
use Rattle.session_run.specs.declared.fault.RunFault.{RunFault}
use Rattle.session_run.specs.declared.fault.RunFault.TheVariants as run
use Rattle.store_spec.specs.Ballot.{Ballot}
use Rattle.store_spec.specs.Disk.{DiskModel}
use Rattle.store_spec.specs.Election.{Election}
use Rattle.store_spec.specs.Input.{script_limit}
use Rattle.store_spec.specs.Parts.{of_parts, share}

-- ---- why it ends

-- the disk of this part failed
abbrev pub disk_status : ℕ → Status
disk_status zero = status.DiskFault
disk_status (suc place) = status.OtherDiskFault (suc place)

-- the media of the parts are not opened
abbrev pub open_status : PartFault → Status
open_status (faults.First why) = refused_status (medium_fault why)
open_status (faults.Other index why) = status.BadMedium index why
open_status (faults.Misplaced index number) = status.Misplaced index number
open_status (faults.DiskFault index) = disk_status index
open_status faults.Memory = status.Memory

-- A session over the parts ended: where a call on a disk failed, with the status of the one whose count of faults rose.
abbrev pub IsStatusOf : {D : Type 0} → DiskModel D → Result (Unit {0}) RunFault → Status → D → D → List D → List D → Type 0
IsStatusOf model (Err run.DiskFault) a one after more now =
    (part : ℕ) × (a ≡ disk_status part)
    × PartFails (length more) (models_of model model) (Some part) (one, more) (after, now) part
IsStatusOf model answer a one after more now = a ≡ ended_as run_status answer

-- ---- no session began

-- The media were refused for this reason. Nothing was written to them, unless all held sets of their parts and a disk
-- failed or there was no memory. Nothing was read of the script or written to the sink.
pub record PartsNotBegun {S K D : Type 0} (model : DiskModel D) (e : Election) (a : Status) (report : Reported)
    (old new : Input S) (sink sunk : Output K) (one after : D) (more now : List D) : Type 0 where
  pub fault : PartFault
  pub is : a ≡ open_status fault
  pub against : IsAgainst model model e one after more now fault
  pub leaves : LeavesOf model model e one after more now fault
  pub unwritten : WritesBehindLooks model model e one after more now fault
  pub crashes : LooksThenRecovers {T = Parted} model model e (Err fault) one after more now
  pub script : new ≡ old
  pub nothing_written : sunk ≡ sink
  pub reported : report ≡ nothing_reported

-- ---- a session

-- the disk of a part
abbrev pub disk_of : {D : Type 0} → D × List D → ℕ → Option D
disk_of disks zero = Some disks.0
disk_of disks (suc place) = slice_get disks.1 place

-- From these disks on a session with this set is seen: each as the looks left it, or as it was at the start, where each
-- crash image of the start held its part's share.
pub record IsSeenFrom {D : Type 0} (model : DiskModel D) (e : Election) (bits : ℕ) (set : List Ballot)
    (start looked from : D × List D) : Type 0 where
  pub size : length from.1 ≡ length start.1
  pub each : (part : ℕ) → part ≤ length start.1
      → (disk_of from part ≡ disk_of looked part)
      ⊎ ((disk_of from part ≡ disk_of start part)
      × HoldsOne (models_of model model part) e (share bits part set) start)

-- the machine over so many further disks
abbrev pub part_model : {D : Type 0} → DiskModel D → ℕ → StoreModel (D × List D)
part_model model more = store_model (of_parts (bits_of more)) (parted_disks model model (bits_of more) more)

-- The media of all parts were looked at, which wrote nothing and in which no call failed, then each was recovered, and a
-- session began with the set of which they held the shares.
pub record PartsHaveBegun {S K D : Type 0} (model : DiskModel D) (e : Election) (a : Status) (report : Reported)
    (old new : Input S) (sink sunk : Output K) (one after : D) (more now : List D) : Type 0 where
  pub looked : D × List D
  pub reads : WritesNothing model.seen model.calls model.may_leave one looked.0
  pub others_read : AllZip (WritesNothing model.seen model.calls model.may_leave) more looked.1
  pub steady : model.faults looked.0 ≡ model.faults one
  pub others_steady : NoneRose model more looked.1
  pub set : List Ballot
  pub answer : Result (Unit {0}) RunFault
  pub is : IsStatusOf model answer a one after more now
  pub goes_on : (from : D × List D) → IsSeenFrom model e (bits_of (length more)) set (one, more) looked from
      → BegunWith (part_model model (length more)) (λ text. text) e set answer old new
      (with_report sink from nothing_reported) (with_report sunk (after, now) report)
  pub rows : length report.others ≡ length report.marks
  pub no_pair : report.begun ≡ None

-- All that a run of `part` promises under an election.
abbrev pub PartEnds : {S K D : Type 0} → DiskModel D → Election → Status → Reported → Input S → Input S → Output K
    → Output K → D → D → List D → List D → Type 0
PartEnds model e a report old new sink sunk one after more now =
    PartsNotBegun model e a report old new sink sunk one after more now
    ⊎ PartsHaveBegun model e a report old new sink sunk one after more now

-- ---- the row

-- these sets are those of parts: each ballot belongs where it is
abbrev pub AreOwn : ℕ → List (List Ballot) → Type 0
AreOwn bits sets = EachIndex sets (λ part. BelongsTo bits part (get_or sets part []))

-- all media hold sets, whose ballots belong there, and the script is within its limit
pub record MayOpenParts (e : Election) (content : Content) : Type 0 where
  pub media : MediaHold e content (AreOwn (bits_of (length content.more)))
  pub script : length content.script ≤ script_limit

-- 1, 3 or 7 words of further media
abbrev pub ArePartWords : List (List ℕ) → Type 0
ArePartWords words = AreFurther (length words)

abbrev part_ends : {S K D : Type 0} → DiskModel D → Election → Status → Reported → World S K D → World S K D → Type 0
part_ends model e a report before after =
    PartEnds model e a report before.streams.script after.streams.script before.streams.sink after.streams.sink
    before.disk after.disk before.more after.more

abbrev pub part_row : Row
part_row = record {
  word = codes "part";
  further = ArePartWords;
  touches = record { script = true; disk = true; more = true; report = true };
  served = MayOpenParts;
  done = EndsWell;
  ends = part_ends;
}
