-- What the command `twin` makes of a script and of two disks. `old` and `new` are the script before and after, `sink` and
-- `sunk` the sink, `one` and `one_after` the first disk, `two` and `two_after` the second.
use Rattle.std.specs.Prelude.{◌≡◌, ◌≢◌, ◌↔◌, ◌⊎◌, ◌+◌, ◌<◌, ◌≤◌, ◌∷◌, [], ℕ, List, codes, length, map, Option, Some, is_some, Result, Err, true}
use Rattle.outside_io.specs.Outside.{Input, Output}
use Rattle.outside_io.specs.Stream.{TakesAll, TakesSome}
use Rattle.phase_gate.specs.Around.{Around}
use Rattle.any_store.specs.Beside.{calls_beside}
use Rattle.any_store.specs.Checkpointed.{IsMediumNow}
use Rattle.any_store.specs.Disks.{one_store}
use Rattle.any_store.specs.Disks.StoreDisks.{Alone}
use Rattle.recovery.specs.declared.fault.MediumWhy.TheVariants as media
use Rattle.run_outcome.specs.Row.{Content, EndsWell, IsOne, OfOne, Row}
use Rattle.run_outcome.specs.Status.{ended_as}
use Rattle.run_outcome.specs.World.{Reported, World, nothing_reported}
use Rattle.run_outcome.specs.declared.status.Status.{Status}
use Rattle.run_outcome.specs.declared.status.Status.TheVariants as status
use Rattle.session_commands.specs.Session.{run_status}
use Rattle.session_run.specs.Ends.{GoesOn, HandlingEnds, IsAtCheckpoint}
use Rattle.session_run.specs.History.{Acknowledged, Stood, Tried}
use Rattle.session_run.specs.declared.fault.RunFault.{RunFault}
use Rattle.session_run.specs.declared.fault.RunFault.TheVariants as run
use Rattle.store_spec.specs.Ballot.{Ballot, IsBallotSet, IsWithinLimit}
use Rattle.store_spec.specs.Disk.{AddsNoCrashImage, DiskModel, IsSettled, LeavesOnly, after_calls}
use Rattle.store_spec.specs.Election.{Election}
use Rattle.store_spec.specs.Fault.{Rose, last_count}
use Rattle.store_spec.specs.Input.{script_limit}
use Rattle.store_spec.specs.Medium.{HoldsSet}
use Rattle.store_spec.specs.Session.{Effect, Plays, State, acknowledged_in, begun}
use Rattle.twin_media.specs.Pairing.{IsPaired, IsPairSet, IsUnwrittenPair, PairLeaves, PairRefuses}
use Rattle.twin_media.specs.declared.fault.DiskWhy.{DiskWhy}
use Rattle.twin_media.specs.declared.fault.DiskWhy.TheVariants.{TooLarge, OtherElection, Damaged}
use Rattle.twin_media.specs.declared.fault.PairFault.{PairFault}
use Rattle.twin_media.specs.declared.fault.PairFault.TheVariants as faults
use Rattle.twin_media.specs.declared.pairing.Paired.{Paired}
use Rattle.twin_media.specs.declared.pairing.Paired.TheVariants.{Equal, Differed, FirstRestored, SecondRestored}

-- ---- texts and statuses

-- the line that tells how two disks were found
abbrev pub paired_text : Paired → List ℕ
paired_text Equal = codes "media equal\n"
paired_text Differed = codes "media differed\n"
paired_text FirstRestored = codes "media first-restored\n"
paired_text SecondRestored = codes "media second-restored\n"

abbrev pub first_status : DiskWhy → Status
first_status (TooLarge size) = status.WrongSize size
first_status (OtherElection header) = status.OtherElection header
first_status (Damaged cell) = status.Damaged cell

-- the second disk is the first further medium
abbrev pub second_status : DiskWhy → Status
second_status (TooLarge size) = status.MediumSize 1 size
second_status (OtherElection header) = status.BadMedium 1 (media.OtherElection header)
second_status (Damaged cell) = status.BadMedium 1 (media.Damaged cell)

abbrev pub pair_status : PairFault → Status
pair_status (faults.First why) = first_status why
pair_status (faults.Second why) = second_status why
pair_status faults.BothLost = status.NoStore
pair_status faults.FirstFault = status.DiskFault
pair_status faults.SecondFault = status.OtherDiskFault 1
pair_status faults.Memory = status.Memory

-- Why a call on both disks failed, as a status: one of them failed, the first or the second, and the other's count of
-- faults is as before. Where the count of calls of one is at its end, that is told as want of memory.
abbrev pub TwinBlames : {A B : Type 0} → DiskModel A → DiskModel B → A → A → B → B → Status → Type 0
TwinBlames m n one one_after two two_after status.DiskFault = Rose (m.faults one) (m.faults one_after) × (n.faults two_after ≡ n.faults two)
TwinBlames m n one one_after two two_after (status.OtherDiskFault index) =
    (index ≡ 1) × Rose (n.faults two) (n.faults two_after) × (m.faults one_after ≡ m.faults one)
TwinBlames m n one one_after two two_after status.Memory = (last_count ≤ m.calls one_after + 2) ⊎ (last_count ≤ n.calls two_after + 2)
TwinBlames m n one one_after two two_after other = ⊥

-- the status of a failed call on both, by the disk that is named and the counts of calls of both
abbrev pub IsBlame : ℕ → ℕ → Option ℕ → Status → Type 0
IsBlame one two failed a =
    ((a ≡ status.Memory) × ((last_count ≤ one + 2) ⊎ (last_count ≤ two + 2)))
    ⊎ ((¬ (last_count ≤ one + 2)) × (¬ (last_count ≤ two + 2))
    × (((a ≡ status.DiskFault) × (failed ≡ Some 0)) ⊎ ((a ≡ status.OtherDiskFault 1) × (failed ≢ Some 0))))

-- ---- no pair

-- the two disks are no pair for this reason, and as far as that allows neither was written
pub record NotPaired {D : Type 0} (model : DiskModel D) (e : Election) (fault : PairFault) (one one_after two two_after : D) : Type 0 where
  pub refuses : PairRefuses model model e one one_after two two_after fault
  pub unwritten : IsUnwrittenPair model model e one one_after two two_after fault
  pub first_steady : fault ≢ faults.FirstFault → model.faults one_after ≡ model.faults one
  pub second_steady : fault ≢ faults.SecondFault → model.faults two_after ≡ model.faults two

-- there was no memory before a call was made on either disk
abbrev pub IsWithoutMemory : {D : Type 0} → D → D → D → D → Status → Type 0
IsWithoutMemory one one_after two two_after a = (a ≡ status.Memory) × (one_after ≡ one) × (two_after ≡ two)

-- Why they are none, as a status. They may have been made one already when a disk failed, so that it is not known to last.
abbrev pub TwinRefuses : {D : Type 0} → DiskModel D → Election → D → D → D → D → Status → Type 0
TwinRefuses model e one one_after two two_after a =
    ((fault : PairFault) × (a ≡ pair_status fault) × NotPaired model e fault one one_after two two_after)
    ⊎ (IsWithoutMemory one one_after two two_after a ⊎ TwinBlames model model one one_after two two_after a)

-- what a crash leaves of both disks, where they tell their bytes; or no call was made
abbrev pub LeavesPair : {D : Type 0} → DiskModel D → Election → D → D → D → D → Type 0
LeavesPair model e one one_after two two_after = (a b : List ℕ) → model.seen one ≡ Some a → model.seen two ≡ Some b
    → ((one_after ≡ one) × (two_after ≡ two)) ⊎ PairLeaves model model e a b one one_after two two_after

-- nothing was read of the script or written to the sink, and nothing is reported; each disk tells its bytes as before
pub record TwinNotBegun {S K D : Type 0} (model : DiskModel D) (e : Election) (a : Status) (report : Reported)
    (old new : Input S) (sink sunk : Output K) (one one_after two two_after : D) : Type 0 where
  pub refuses : TwinRefuses model e one one_after two two_after a
  pub leaves : LeavesPair model e one one_after two two_after
  pub told : is_some (model.seen one_after) ≡ is_some (model.seen one)
  pub other_told : is_some (model.seen two_after) ≡ is_some (model.seen two)
  pub script : new ≡ old
  pub nothing_written : sunk ≡ sink
  pub reported : report ≡ nothing_reported

-- ---- a pair

-- a disk as pairing left it: the medium of a set, settled, no moment up to then changed since
pub record IsReady {D : Type 0} (model : DiskModel D) (e : Election) (set : List Ballot) (before ready after : D) : Type 0 where
  pub medium : IsMediumNow model e set ready
  pub told : is_some (model.seen ready) ≡ is_some (model.seen before)
  pub told_after : is_some (model.seen after) ≡ is_some (model.seen before)
  pub no_fault : model.faults ready ≡ model.faults before
  pub past : model.calls after < last_count → (m : ℕ) → m ≤ after_calls (model.calls ready) → (c : List ℕ)
      → model.may_leave after m c ↔ model.may_leave ready m c

-- One more call was made on a disk that was ready, and it did not fail: the disk is the medium of that set still, settled,
-- its count of faults is as it was, and no moment up to then changed since.
pub record IsSynced {D : Type 0} (model : DiskModel D) (e : Election) (set : List Ballot) (ready synced after : D) : Type 0 where
  pub called : model.calls synced ≡ model.calls ready + 1
  pub stands : Acknowledged model e set [] ready synced []
  pub later : model.calls synced ≤ model.calls after
  pub faults : model.faults synced ≤ model.faults after
  pub past : model.calls after < last_count → (m : ℕ) → m ≤ after_calls (model.calls synced) → (c : List ℕ)
      → model.may_leave after m c ↔ model.may_leave synced m c

-- how two disks were found, and that both are the medium of one set
pub record ArePaired {D : Type 0} (model : DiskModel D) (e : Election) (paired : Paired) (set : List Ballot)
    (one ready one_after two other_ready two_after : D) : Type 0 where
  pub found : (a b : List ℕ) → model.seen one ≡ Some a → model.seen two ≡ Some b → IsPaired e a b paired set
  pub legal : IsBallotSet e set
  pub within_limit : IsWithinLimit e set
  pub first : IsReady model e set one ready one_after
  pub second : IsReady model e set two other_ready two_after
  pub leaves : LeavesPair model e one ready two other_ready

-- ---- a session on both

-- one of the disks as a session meets it, with its own marks, and no further disk
abbrev pub around_disk : {K D : Type 0} → Output K → D → List ℕ → ℕ → Around K D
around_disk sink disk marks held = record { sink = sink; disk = disk; marks = marks; others = []; held = held }

-- How the handling of lines ended on both disks, once these were handled: on each as in a session on it alone, but that only
-- one of them failed where a checkpoint did.
abbrev pub TwinHandles : {S K A B : Type 0} → DiskModel A → DiskModel B → Election → List Ballot → List (Option (List ℕ)) → List Effect
    → State → Result (Unit {0}) RunFault → Status → Input S → Input S → Around K A → Around K A → Around K B → Around K B
    → Type 0
TwinHandles m n e set lines effects state (Err run.DiskFault) a old new first first_after second second_after =
    IsAtCheckpoint (λ text. text) e lines effects state old new first first_after
    × Tried m e set first.disk first_after.disk first_after.marks (acknowledged_in effects) state.set
    × Tried n e set second.disk second_after.disk second_after.marks (acknowledged_in effects) state.set
    × TwinBlames m n first.disk first_after.disk second.disk second_after.disk a
    × (new.faults ≡ old.faults) × (first_after.sink.faults ≡ first.sink.faults)
TwinHandles m n e set lines effects state answer a old new first first_after second second_after =
    (a ≡ ended_as run_status answer)
    × HandlingEnds (one_store m) (λ text. text) e set lines effects state answer old new first first_after
    × HandlingEnds (one_store n) (λ text. text) e set lines effects state answer old new second second_after

-- a script was handled line by line, behind the line that tells how the disks were found
pub record TwinPlays {S K A B : Type 0} (m : DiskModel A) (n : DiskModel B) (e : Election) (set : List Ballot) (a : Status)
    (report : Reported) (old new : Input S) (mid sunk : Output K) (ready one_after : A) (other_ready two_after : B) : Type 0 where
  pub answer : Result (Unit {0}) RunFault
  pub lines : List (Option (List ℕ))
  pub effects : List Effect
  pub state : State
  pub plays : Plays e 1 (begun set) lines effects state
  pub marks : List ℕ
  pub others : report.others ≡ map (λ mark. mark ∷ []) marks
  pub handles : TwinHandles m n e set lines effects state answer a old new
      (around_disk mid ready [] (length set)) (around_disk sunk one_after report.marks report.held)
      (around_disk mid other_ready [] (length set)) (around_disk sunk two_after marks report.held)

-- the sink failed and took a part of that line alone, and no line was handled
pub record WritesPart {S K A B : Type 0} (m : DiskModel A) (n : DiskModel B) (e : Election) (set : List Ballot) (paired : Paired) (a : Status)
    (report : Reported) (old new : Input S) (sink sunk : Output K) (ready one_after : A) (other_ready two_after : B) : Type 0 where
  pub script : new ≡ old
  pub part : TakesSome sink.taken (paired_text paired) sunk.taken
  pub failed : a ≡ status.WriteFault
  pub rose : Rose sink.faults sunk.faults
  pub marks : report.marks ≡ []
  pub others : report.others ≡ []
  pub held : report.held ≡ length set
  pub first : Acknowledged m e set [] ready one_after []
  pub second : Acknowledged n e set [] other_ready two_after []

-- the line was written whole, and then a script was handled
pub record WritesPaired {S K A B : Type 0} (m : DiskModel A) (n : DiskModel B) (e : Election) (set : List Ballot) (paired : Paired)
    (a : Status) (report : Reported) (old new : Input S) (sink sunk : Output K)
    (ready one_after : A) (other_ready two_after : B) : Type 0 where
  pub mid : Output K
  pub taken : TakesAll sink.taken (paired_text paired) mid.taken
  pub no_fault : mid.faults ≡ sink.faults
  pub plays : TwinPlays m n e set a report old new mid sunk ready one_after other_ready two_after

-- Two disks became a pair, whose counts of calls then are reported. Both were synced, and only then something was told, and
-- a session began on both.
pub record TwinHasBegun {S K D : Type 0} (model : DiskModel D) (e : Election) (a : Status) (report : Reported)
    (old new : Input S) (sink sunk : Output K) (one one_after two two_after : D) : Type 0 where
  pub paired : Paired
  pub set : List Ballot
  pub ready : D
  pub other_ready : D
  pub are : ArePaired model e paired set one ready one_after two other_ready two_after
  pub begun : report.begun ≡ Some (model.calls ready, model.calls other_ready)
  pub synced : D
  pub other_synced : D
  pub first_synced : IsSynced model e set ready synced one_after
  pub second_synced : IsSynced model e set other_ready other_synced two_after
  pub goes_on : WritesPart model model e set paired a report old new sink sunk ready one_after other_ready two_after
      ⊎ WritesPaired model model e set paired a report old new sink sunk ready one_after other_ready two_after

-- What a session on one disk does behind that line, from the medium of this set on: a part of the line was written alone,
-- or the lines of the script were handled.
abbrev pub GoesOnBehind : {S K D : Type 0} → DiskModel D → Election → List Ballot → Paired → Result (Unit {0}) RunFault
    → Input S → Input S → Output K → Around K D → D → Type 0
GoesOnBehind {S} {K} model e set paired answer old new sink after disk =
    ((new ≡ old) × (after.disk ≡ disk) × (after.marks ≡ []) × (after.held ≡ length set)
    × (answer ≡ Err run.WriteFault) × TakesSome sink.taken (paired_text paired) after.sink.taken × Rose sink.faults after.sink.faults)
    ⊎ ((mid : Output K) × TakesAll sink.taken (paired_text paired) mid.taken × (mid.faults ≡ sink.faults)
    × GoesOn (one_store model) (λ text. text) e (begun set) answer old new (around_disk mid disk [] (length set)) after)

-- Two disks that were made the medium of this set are one, and a call on both failed before anything was told. A crash
-- leaves the set of each.
pub record FailsBoth {S K A B : Type 0} (m : DiskModel A) (n : DiskModel B) (e : Election) (set : List Ballot) (a : Status)
    (report : Reported) (old new : Input S) (sink sunk : Output K) (ready one_after : A) (other_ready two_after : B) : Type 0 where
  pub blames : TwinBlames m n ready one_after other_ready two_after a
  pub told : is_some (m.seen one_after) ≡ is_some (m.seen ready)
  pub other_told : is_some (n.seen two_after) ≡ is_some (n.seen other_ready)
  pub first : (bytes : List ℕ) → m.seen ready ≡ Some bytes → LeavesOnly m.calls m.may_leave ready one_after (λ image. HoldsSet e image set)
  pub second : (bytes : List ℕ) → n.seen other_ready ≡ Some bytes → LeavesOnly n.calls n.may_leave other_ready two_after (λ image. HoldsSet e image set)
  pub script : new ≡ old
  pub nothing_written : sunk ≡ sink
  pub reported : report ≡ nothing_reported

-- or both were synced, and a session went on
pub record WentOn {S K A B : Type 0} (m : DiskModel A) (n : DiskModel B) (e : Election) (set : List Ballot) (paired : Paired) (a : Status)
    (report : Reported) (old new : Input S) (sink sunk : Output K) (ready one_after : A) (other_ready two_after : B) : Type 0 where
  pub begun : report.begun ≡ Some (m.calls ready, n.calls other_ready)
  pub first : IsReady m e set ready ready one_after
  pub second : IsReady n e set other_ready other_ready two_after
  pub synced : A
  pub other_synced : B
  pub first_synced : IsSynced m e set ready synced one_after
  pub second_synced : IsSynced n e set other_ready other_synced two_after
  pub goes_on : WritesPart m n e set paired a report old new sink sunk ready one_after other_ready two_after
      ⊎ WritesPaired m n e set paired a report old new sink sunk ready one_after other_ready two_after

abbrev pub Continues : {S K A B : Type 0} → DiskModel A → DiskModel B → Election → List Ballot → Paired → Status → Reported → Input S
    → Input S → Output K → Output K → A → A → B → B → Type 0
Continues m n e set paired a report old new sink sunk ready one_after other_ready two_after =
    FailsBoth m n e set a report old new sink sunk ready one_after other_ready two_after
    ⊎ WentOn m n e set paired a report old new sink sunk ready one_after other_ready two_after

-- A session on one disk begins by a sync: where that fails, nothing is read, written or reported.
pub record FailsSync {S K D : Type 0} (model : DiskModel D) (old new : Input S) (sink sunk : Output K) (was report : Reported) (disk now : D) : Type 0 where
  pub images : AddsNoCrashImage model.calls model.may_leave disk now
  pub rose : Rose (model.faults disk) (model.faults now)
  pub script : new ≡ old
  pub nothing_written : sunk ≡ sink
  pub reported : report ≡ was

-- where it succeeds, the line is written and the script handled
pub record SyncsAndGoesOn {S K D : Type 0} (model : DiskModel D) (leads_to : D → D → Type 0) (e : Election) (set : List Ballot) (paired : Paired)
    (answer : Result (Unit {0}) RunFault) (begun : ℕ × ℕ) (old new : Input S) (sink : Output K) (after : Around K D) (report : Reported) (disk : D) : Type 0 where
  pub mid : D
  pub same_bytes : model.seen mid ≡ model.seen disk
  pub settled : IsSettled model.seen model.calls model.may_leave mid
  pub images : AddsNoCrashImage model.calls model.may_leave disk mid
  pub steady : model.faults mid ≡ model.faults disk
  pub leads : leads_to disk mid
  pub begun_is : report.begun ≡ Some begun
  pub others : report.others ≡ map (calls_beside (Some begun)) report.marks
  pub stood : Stood (Alone model) leads_to mid after.disk after.marks
  pub goes_on : GoesOnBehind model e set paired answer old new sink after mid

-- All that a run of `twin` promises under an election.
abbrev pub TwinEnds : {S K D : Type 0} → DiskModel D → Election → Status → Reported → Input S → Input S → Output K
    → Output K → D → D → D → D → Type 0
TwinEnds model e a report old new sink sunk one one_after two two_after =
    TwinNotBegun model e a report old new sink sunk one one_after two two_after
    ⊎ TwinHasBegun model e a report old new sink sunk one one_after two two_after

-- ---- the row

-- one of the disks holds a set at least, and the other is lost or holds one; the script is within its limit
abbrev pub MayPair : Election → Content → Type 0
MayPair e content = ((two : List ℕ) × (content.more ≡ two ∷ []) × ((set : List Ballot) × IsPairSet e content.disk two set))
    × (length content.script ≤ script_limit)

abbrev twin_ends : {S K D : Type 0} → DiskModel D → Election → Status → Reported → World S K D → World S K D → Type 0
twin_ends model e a report before after =
    OfOne (TwinEnds model e a report before.streams.script after.streams.script before.streams.sink after.streams.sink
    before.disk after.disk) before.more after.more

abbrev pub twin_row : Row
twin_row = record {
  word = codes "twin";
  further = IsOne;
  touches = record { script = true; disk = true; more = true; report = true };
  served = MayPair;
  done = EndsWell;
  ends = twin_ends;
}
