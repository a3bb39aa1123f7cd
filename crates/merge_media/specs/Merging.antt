-- What the merging of media makes of a target and of further media. `before` and `after` are the target's disk, `more`
-- and `now` those of the further media.
use Rattle.std.specs.Prelude.{◌≡◌, ◌≢◌, ◌⊎◌, ℕ, ◌+◌, ◌<◌, List, ◌∷◌, length, Some, IfSome}
use Rattle.merge_media.specs.Union.{IsLeastDisputed, IsUnion}
use Rattle.merge_media.specs.declared.fault.MergeFault.{MergeFault}
use Rattle.merge_media.specs.declared.fault.MergeFault.TheVariants.{Target, OtherFault, Other, Dispute, TooMany, DiskFault, Memory}
use Rattle.outside_io.specs.Told.{AsTold}
use Rattle.recovery.specs.Media.{EachHolds, HoldsIfTold, IsRefusedFor, NoneRose, StopsAt}
use Rattle.recovery.specs.Refused.{IsRefusedMedium, IsUnchangedAt}
use Rattle.recovery.specs.declared.fault.MediumWhy.TheVariants as media
use Rattle.recovery.specs.declared.fault.RecoverFault.{RecoverFault}
use Rattle.recovery.specs.declared.fault.RecoverFault.TheVariants as recover
use Rattle.store_spec.specs.Ballot.{Ballot}
use Rattle.store_spec.specs.Disk.{DiskModel, IsSettled, LeavesOnly, leaves_now}
use Rattle.store_spec.specs.Election.{Election}
use Rattle.store_spec.specs.Fault.{CountsFaultIf, Rose}
use Rattle.store_spec.specs.Medium.{HoldsSet, IsMediumOf}

-- ---- the further media

-- why the medium with this index is not joined
abbrev pub RefusesMedium : {D : Type 0} → DiskModel D → Election → ℕ → D → D → MergeFault → Type 0
RefusesMedium model e index before after (OtherFault i) = (i ≡ index) × Rose (model.faults before) (model.faults after)
RefusesMedium model e index before after (Other i why) = (i ≡ index) × IsRefusedFor model e why before after
RefusesMedium model e index before after Memory = model.faults after ≡ model.faults before
RefusesMedium model e index before after fault = ⊥

-- the fault of a look at it
abbrev pub further_fault : ℕ → RecoverFault → MergeFault
further_fault index recover.NoStore = Other index media.NoStore
further_fault index (recover.OtherElection header) = Other index (media.OtherElection header)
further_fault index (recover.Damaged cell) = Other index (media.Damaged cell)
further_fault index recover.DiskFault = OtherFault index
further_fault index recover.Memory = Memory

-- the first of them that is not joined
abbrev pub RefusesOne : {D : Type 0} → DiskModel D → Election → List D → List D → MergeFault → Type 0
RefusesOne model e more now fault =
    StopsAt model e (λ place old new. RefusesMedium model e (place + 1) old new fault) more now

-- why the further media are not joined
abbrev pub RefusesFurther : {D : Type 0} → DiskModel D → Election → List D → List D → MergeFault → Type 0
RefusesFurther model e more now Memory = NoneRose model more now
RefusesFurther model e more now fault = RefusesOne model e more now fault

-- ---- the target

-- it was recovered: it holds this set, and is the medium of it, settled
pub record IsRecovered {D : Type 0} (model : DiskModel D) (e : Election) (set : List Ballot) (before after : D) : Type 0 where
  pub held : HoldsIfTold model e before set
  pub medium : AsTold model.seen before after (λ _ bytes. IsMediumOf e bytes set)
  pub settled : IsSettled model.seen model.calls model.may_leave after
  pub no_fault : model.faults after ≡ model.faults before

-- it gave no store
pub record RefusesTarget {D : Type 0} (model : DiskModel D) (e : Election) (why : RecoverFault) (before after : D) : Type 0 where
  pub refused : IfSome (model.seen before) (λ bytes. IsRefusedMedium e bytes why)
  pub unchanged : IsUnchangedAt why (model.seen before) (model.seen after)
  pub no_memory : why ≢ recover.Memory
  pub fault : CountsFaultIf (why ≡ recover.DiskFault) (model.faults before) (model.faults after)

-- the bytes are as before, or became the medium of the set that they held
abbrev pub IsTargetKept : Election → List ℕ → List ℕ → Type 0
IsTargetKept e x y = (y ≡ x) ⊎ ((set : List Ballot) × HoldsSet e x set × IsMediumOf e y set)

-- ---- all media

-- the sets that all of them hold
pub record HoldsAll {A B : Type 0} (target : DiskModel A) (further : DiskModel B) (e : Election) (before after : A) (more now : List B) (set : List Ballot) (sets : List (List Ballot)) : Type 0 where
  pub recovered : IsRecovered target e set before after
  pub each : EachHolds further e more sets
  pub none_rose : NoneRose further more now

-- the union has more ballots than the election's store may hold, so many
pub record IsTooLarge (e : Election) (sets : List (List Ballot)) (count : ℕ) : Type 0 where
  pub union : List Ballot
  pub is : IsUnion sets union
  pub count_is : length union ≡ count
  pub above : e.limit < count

-- Why media are not merged. Where the target fails after its recovery, all media were read, and their sets have a union.
-- Where memory runs out, the target was recovered, or its bytes are as before.
abbrev pub MergeRefuses : {A B : Type 0} → DiskModel A → DiskModel B → Election → A → A → List B → List B → MergeFault → Type 0
MergeRefuses target further e before after more now (Target why) = RefusesTarget target e why before after × (now ≡ more)
MergeRefuses target further e before after more now (OtherFault index) =
    ((set : List Ballot) × IsRecovered target e set before after) × RefusesOne further e more now (OtherFault index)
MergeRefuses target further e before after more now (Other index why) =
    ((set : List Ballot) × IsRecovered target e set before after) × RefusesOne further e more now (Other index why)
MergeRefuses target further e before after more now (Dispute number) =
    (set : List Ballot) × (sets : List (List Ballot)) × HoldsAll target further e before after more now set sets × IsLeastDisputed (set ∷ sets) number
MergeRefuses target further e before after more now (TooMany count) =
    (set : List Ballot) × (sets : List (List Ballot)) × HoldsAll target further e before after more now set sets × IsTooLarge e (set ∷ sets) count
MergeRefuses target further e before after more now DiskFault =
    Rose (target.faults before) (target.faults after) × NoneRose further more now
    × ((set : List Ballot) × (sets : List (List Ballot)) × HoldsIfTold target e before set × EachHolds further e more sets × (union : List Ballot) × IsUnion (set ∷ sets) union)
MergeRefuses target further e before after more now Memory =
    (target.faults after ≡ target.faults before) × NoneRose further more now × AsTold target.seen before after (IsTargetKept e)

-- the target is the medium of the union of all media
pub record Merges {A B : Type 0} (target : DiskModel A) (further : DiskModel B) (e : Election) (before after : A) (more now : List B) (count : ℕ) : Type 0 where
  pub set : List Ballot
  pub sets : List (List Ballot)
  pub held : HoldsIfTold target e before set
  pub each : EachHolds further e more sets
  pub union : List Ballot
  pub is : IsUnion (set ∷ sets) union
  pub count_is : length union ≡ count
  pub medium : AsTold target.seen before after (λ _ bytes. IsMediumOf e bytes union)
  pub settled : IsSettled target.seen target.calls target.may_leave after
  pub no_fault : target.faults after ≡ target.faults before
  pub none_rose : NoneRose further more now

-- the bytes hold the target's old set, or the union of all media
abbrev pub HoldsOldOrUnion : {B : Type 0} → DiskModel B → Election → List Ballot → List B → List ℕ → Type 0
HoldsOldOrUnion further e set more image =
    HoldsSet e image set
    ⊎ ((sets : List (List Ballot)) × EachHolds further e more sets × (union : List Ballot) × IsUnion (set ∷ sets) union × HoldsSet e image union)

-- At each moment each crash image of the target is one that a crash might have left at the start, or holds the set that
-- the target held, or the union of all media.
abbrev pub MergesThroughout : {A B : Type 0} → DiskModel A → DiskModel B → Election → A → A → List B → Type 0
MergesThroughout target further e before after more =
    (bytes : List ℕ) → target.seen before ≡ Some bytes
    → LeavesOnly target.calls target.may_leave before after
    (λ image. leaves_now target.calls target.may_leave before image ⊎ ((set : List Ballot) × HoldsSet e bytes set × HoldsOldOrUnion further e set more image))

-- why the target gave no union to begin with
abbrev pub RefusesBegin : {D : Type 0} → DiskModel D → Election → D → D → MergeFault → Type 0
RefusesBegin target e before after (Target why) = RefusesTarget target e why before after
RefusesBegin target e before after Memory = (target.faults after ≡ target.faults before) × AsTold target.seen before after (IsTargetKept e)
RefusesBegin target e before after fault = ⊥

-- why the union of these sets is no store
abbrev pub RefusesUnion : Election → List (List Ballot) → MergeFault → Type 0
RefusesUnion e sets (Dispute number) = IsLeastDisputed sets number
RefusesUnion e sets (TooMany count) = IsTooLarge e sets count
RefusesUnion e sets Memory = Unit {0}
RefusesUnion e sets fault = ⊥
