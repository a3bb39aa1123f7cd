-- The opening of a store in parts. `one` and `after` are the first disk before and after, `more` and `now` the further
-- ones, of the parts from 1 on.
use Rattle.std.specs.Prelude.{◌≡◌, ◌≢◌, ◌⊎◌, ℕ, zero, suc, ◌+◌, ◌<◌, ◌≤◌, ◌==◌, if◌then◌else◌, EachIndex, List, [], ◌∷◌, get_or, is_some, length, OnOk, Result, Some, slice_get, take}
use Rattle.std.specs.List.{AllZip}
use Rattle.any_store.specs.Checkpointed.{IsMediumNow}
use Rattle.outside_io.specs.Told.{AsTold}
use Rattle.partition_store.specs.Foreign.{IsMisplaced}
use Rattle.partition_store.specs.Parted.{BelongsTo, IsParted, Parted, bits_of}
use Rattle.partition_store.specs.declared.fault.PartFault.{PartFault}
use Rattle.partition_store.specs.declared.fault.PartFault.TheVariants.{First, Other, Misplaced, DiskFault, Memory}
use Rattle.recovery.specs.Media.{EachHolds, HoldsIfTold, IsRefusedFor, NoneRose, StopsAt}
use Rattle.recovery.specs.ReadsOnly.{WritesNothing}
use Rattle.recovery.specs.Refused.{HoldsSetOf}
use Rattle.recovery.specs.declared.fault.MediumWhy.{MediumWhy}
use Rattle.recovery.specs.declared.fault.MediumWhy.TheVariants as media
use Rattle.recovery.specs.declared.fault.RecoverFault.{RecoverFault}
use Rattle.recovery.specs.declared.fault.RecoverFault.TheVariants as recover
use Rattle.store_spec.specs.Ballot.{Ballot}
use Rattle.store_spec.specs.Disk.{DiskModel, LeavesOnly, SyncsFirst, leaves_now}
use Rattle.store_spec.specs.Election.{Election}
use Rattle.store_spec.specs.Fault.{Rose, last_count}
use Rattle.store_spec.specs.Medium.{HoldsSet, HoldsTheSame, IsMediumOf}

-- ---- one disk

-- the refusal of the medium of a part
abbrev pub refused_at : ℕ → MediumWhy → PartFault
refused_at index why = if index == 0 then First why else Other index why

-- the fault of a look at it
abbrev pub look_fault : ℕ → RecoverFault → PartFault
look_fault index recover.NoStore = refused_at index media.NoStore
look_fault index (recover.OtherElection header) = refused_at index (media.OtherElection header)
look_fault index (recover.Damaged cell) = refused_at index (media.Damaged cell)
look_fault index recover.DiskFault = DiskFault index
look_fault index recover.Memory = Memory

-- The fault of its recovery, after a look that gave a store. Where it is refused all the same, the disk gave other bytes
-- than before.
abbrev pub recovery_fault_at : ℕ → RecoverFault → PartFault
recovery_fault_at index recover.DiskFault = DiskFault index
recovery_fault_at index why = Memory

-- why a look at it gave no store
abbrev pub RefusesLook : {D : Type 0} → DiskModel D → Election → ℕ → D → D → PartFault → Type 0
RefusesLook model e index before after (First why) = (index ≡ 0) × IsRefusedFor model e why before after
RefusesLook model e index before after (Other i why) = (i ≡ index) × (index ≢ 0) × IsRefusedFor model e why before after
RefusesLook model e index before after (Misplaced i number) = ⊥
RefusesLook model e index before after (DiskFault i) = (i ≡ index) × Rose (model.faults before) (model.faults after)
RefusesLook model e index before after Memory = model.faults after ≡ model.faults before

-- At each moment each crash image is one that a crash might have left at the start, or holds the set that was read.
abbrev pub HoldsThroughout : {D : Type 0} → DiskModel D → Election → D → D → Type 0
HoldsThroughout model e old new =
    (bytes : List ℕ) → model.seen old ≡ Some bytes
    → LeavesOnly model.calls model.may_leave old new (λ image. leaves_now model.calls model.may_leave old image ⊎ HoldsSetOf e bytes image)

-- What holds of a disk however its recovery ends. Either nothing was called, or it began with a sync: once that has
-- returned, each crash image of each moment holds the same as the bytes that were read.
pub record Recovers {D : Type 0} (model : DiskModel D) (e : Election) (old new : D) : Type 0 where
  pub told : is_some (model.seen new) ≡ is_some (model.seen old)
  pub later : model.calls old ≤ model.calls new
  pub throughout : HoldsThroughout model e old new
  pub once_synced : (bytes : List ℕ) → model.seen old ≡ Some bytes
      → (new ≡ old) ⊎ SyncsFirst model.calls model.may_leave old new (HoldsTheSame e bytes)

-- the bytes are as before, or became the medium of the set that they held
abbrev pub IsKeptMedium : Election → List ℕ → List ℕ → Type 0
IsKeptMedium e x y = (y ≡ x) ⊎ ((set : List Ballot) × HoldsSet e x set × IsMediumOf e y set)

-- it keeps what it held
abbrev pub KeepsMedium : {D : Type 0} → DiskModel D → Election → D → D → Type 0
KeepsMedium model e old new = AsTold model.seen old new (IsKeptMedium e)

-- a call on it failed: it gives what a crash might have left before, or what holds the set that it held
pub record FailsMedium {D : Type 0} (model : DiskModel D) (e : Election) (old new : D) : Type 0 where
  pub rose : Rose (model.faults old) (model.faults new)
  pub bytes : AsTold model.seen old new (λ x y. leaves_now model.calls model.may_leave old y ⊎ HoldsSetOf e x y)

-- ---- the further disks

-- one of them failed, and the others kept what they held
pub record FailsAt {D : Type 0} (model : DiskModel D) (e : Election) (place : ℕ) (more now : List D) : Type 0 where
  pub old : D
  pub there : slice_get more place ≡ Some old
  pub new : D
  pub there_now : slice_get now place ≡ Some new
  pub fails : FailsMedium model e old new
  pub others : (i : ℕ) (x y : D) → i ≢ place → slice_get more i ≡ Some x → slice_get now i ≡ Some y → KeepsMedium model e x y

abbrev pub RefusesAt : {D : Type 0} → DiskModel D → Election → List D → List D → PartFault → Type 0
RefusesAt model e more now fault =
    StopsAt model e (λ place old new. RefusesLook model e (place + 1) old new fault) more now

-- why looks at them gave no stores
abbrev pub RefusesParts : {D : Type 0} → DiskModel D → Election → List D → List D → PartFault → Type 0
RefusesParts model e more now Memory = NoneRose model more now
RefusesParts model e more now fault = RefusesAt model e more now fault

-- ---- all disks

-- the sets that all of them hold, and no call failed
pub record AllHold {A B : Type 0} (first : DiskModel A) (further : DiskModel B) (e : Election) (one after : A) (more now : List B) (set : List Ballot) (sets : List (List Ballot)) : Type 0 where
  pub held : HoldsIfTold first e one set
  pub each : EachHolds further e more sets
  pub no_fault : first.faults after ≡ first.faults one
  pub none_rose : NoneRose further more now

-- the disk of a part failed
abbrev pub RoseAt : {A B : Type 0} → DiskModel A → DiskModel B → A → A → List B → List B → ℕ → Type 0
RoseAt first further one after more now zero = Rose (first.faults one) (first.faults after)
RoseAt {A} {B} first further one after more now (suc place) =
    (old : B) × (new : B) × (slice_get more place ≡ Some old) × (slice_get now place ≡ Some new) × Rose (further.faults old) (further.faults new)

-- one of these disks apart, no count of faults rose
abbrev pub NoOtherRose : {D : Type 0} → DiskModel D → ℕ → List D → List D → Type 0
NoOtherRose {D} model place more now = (i : ℕ) (x y : D) → i ≢ place → slice_get more i ≡ Some x → slice_get now i ≡ Some y → model.faults y ≡ model.faults x

-- the same of the disks of all parts
abbrev pub NoOtherPartRose : {A B : Type 0} → DiskModel A → DiskModel B → A → A → List B → List B → ℕ → Type 0
NoOtherPartRose first further one after more now zero = NoneRose further more now
NoOtherPartRose first further one after more now (suc place) = (first.faults after ≡ first.faults one) × NoOtherRose further place more now

-- the media of all parts before this one hold sets
abbrev pub HoldBefore : {A B : Type 0} → DiskModel A → DiskModel B → Election → A → List B → ℕ → Type 0
HoldBefore first further e one more zero = Unit {0}
HoldBefore first further e one more (suc place) =
    ((set : List Ballot) × HoldsIfTold first e one set) × ((sets : List (List Ballot)) × EachHolds further e (take place more) sets)

-- Why a store in parts is not opened. A medium that is refused comes before a number in another part than its own. Where a
-- disk failed, no other one did, and the media before it hold sets.
abbrev pub IsAgainst : {A B : Type 0} → DiskModel A → DiskModel B → Election → A → A → List B → List B → PartFault → Type 0
IsAgainst first further e one after more now (First why) = IsRefusedFor first e why one after × (now ≡ more)
IsAgainst first further e one after more now (Other index why) =
    ((set : List Ballot) × HoldsIfTold first e one set) × (first.faults after ≡ first.faults one) × RefusesAt further e more now (Other index why)
IsAgainst first further e one after more now (Misplaced index number) =
    (set : List Ballot) × (sets : List (List Ballot)) × AllHold first further e one after more now set sets
    × IsMisplaced (bits_of (length more)) (set ∷ sets) index number
IsAgainst first further e one after more now (DiskFault index) =
    RoseAt first further one after more now index × NoOtherPartRose first further one after more now index × HoldBefore first further e one more index
IsAgainst first further e one after more now Memory =
    (first.faults after ≡ first.faults one) × NoneRose further more now

-- what every disk is left with then
abbrev pub LeavesOf : {A B : Type 0} → DiskModel A → DiskModel B → Election → A → A → List B → List B → PartFault → Type 0
LeavesOf first further e one after more now (DiskFault zero) =
    FailsMedium first e one after × AllZip (KeepsMedium further e) more now
LeavesOf first further e one after more now (DiskFault (suc place)) =
    KeepsMedium first e one after × FailsAt further e place more now
LeavesOf first further e one after more now fault =
    KeepsMedium first e one after × AllZip (KeepsMedium further e) more now

-- All media were looked at, which wrote nothing, and then recovered one after another, as far as that came; where it was
-- answered with a store, each of them. Where no call failed in all, none failed in the looks.
pub record LooksThenRecovers {A B T E : Type 0} (first : DiskModel A) (further : DiskModel B) (e : Election) (answer : Result T E) (one after : A) (more now : List B) : Type 0 where
  pub looked : A × List B
  pub reads : WritesNothing first.seen first.calls first.may_leave one looked.0
  pub others_read : AllZip (WritesNothing further.seen further.calls further.may_leave) more looked.1
  pub steady : first.faults after ≡ first.faults one → first.faults looked.0 ≡ first.faults one
  pub others_steady : NoneRose further more now → NoneRose further more looked.1
  pub recovers : Recovers first e looked.0 after
  pub others_recover : AllZip (Recovers further e) looked.1 now
  pub called : OnOk answer (first.calls after < last_count → first.calls looked.0 < first.calls after)
  pub others_called : OnOk answer (AllZip (λ old new. further.calls new < last_count → further.calls old < further.calls new) looked.1 now)

-- ---- what is written where they are not opened

-- nothing was written to any disk
abbrev pub NoneWritten : {A B : Type 0} → DiskModel A → DiskModel B → A → A → List B → List B → Type 0
NoneWritten first further one after more now =
    WritesNothing first.seen first.calls first.may_leave one after × AllZip (WritesNothing further.seen further.calls further.may_leave) more now

-- all media hold sets, whose ballots belong there
pub record AllHoldOwn {A B : Type 0} (first : DiskModel A) (further : DiskModel B) (e : Election) (one : A) (more : List B) : Type 0 where
  pub set : List Ballot
  pub sets : List (List Ballot)
  pub held : HoldsIfTold first e one set
  pub each : EachHolds further e more sets
  pub own : EachIndex (set ∷ sets) (λ part. BelongsTo (bits_of (length more)) part (get_or (set ∷ sets) part []))

-- Nothing was written to any disk. Only where a disk failed or there was no memory it may have been, and then all media
-- hold sets, whose ballots belong there.
abbrev pub WritesBehindLooks : {A B : Type 0} → DiskModel A → DiskModel B → Election → A → A → List B → List B → PartFault → Type 0
WritesBehindLooks first further e one after more now (DiskFault index) =
    NoneWritten first further one after more now ⊎ AllHoldOwn first further e one more
WritesBehindLooks first further e one after more now Memory =
    NoneWritten first further one after more now ⊎ AllHoldOwn first further e one more
WritesBehindLooks first further e one after more now fault = NoneWritten first further one after more now

-- The store that was opened: the sets are those that the disks held, and each disk is the medium of its part's set.
pub record IsOpened {A B : Type 0} (first : DiskModel A) (further : DiskModel B) (e : Election) (one after : A) (more now : List B) (store : Parted) : Type 0 where
  pub parted : IsParted store
  pub election : store.election ≡ e
  pub set : List Ballot
  pub sets : List (List Ballot)
  pub are : store.sets ≡ set ∷ sets
  pub all : AllHold first further e one after more now set sets
  pub medium : IsMediumNow first e set after
  pub media : AllZip (λ set disk. IsMediumNow further e set disk) sets now
