-- Two disks become a pair. `one` and `two` are the bytes of the first disk and of the second at the start.
use Rattle.std.specs.Prelude.{◌≡◌, ◌≢◌, ◌⊎◌, ◌<◌, ℕ, List, length, Some, IfSome}
use Rattle.outside_io.specs.Told.{AsTold}
use Rattle.recovery.specs.Refused.{HoldsSetOf, IsRefusedMedium}
use Rattle.recovery.specs.declared.fault.RecoverFault.TheVariants as recover
use Rattle.store_spec.specs.Ballot.{Ballot}
use Rattle.store_spec.specs.Disk.{DiskModel, IsSettled, KeepsCrashImages, LeavesOnly, LeavesOnlyOnceSynced, SyncsFirst, leaves_now}
use Rattle.store_spec.specs.Election.{Election, medium_size}
use Rattle.store_spec.specs.Fault.{Rose}
use Rattle.store_spec.specs.Medium.{HoldsSet, IsMediumOf, IsUnused}
use Rattle.twin_media.specs.declared.fault.DiskWhy.{DiskWhy}
use Rattle.twin_media.specs.declared.fault.DiskWhy.TheVariants.{TooLarge, OtherElection, Damaged}
use Rattle.twin_media.specs.declared.fault.FindFault.{FindFault}
use Rattle.twin_media.specs.declared.fault.FindFault.TheVariants as finds
use Rattle.twin_media.specs.declared.fault.PairFault.{PairFault}
use Rattle.twin_media.specs.declared.fault.PairFault.TheVariants as pairs
use Rattle.twin_media.specs.declared.pairing.Paired.{Paired}
use Rattle.twin_media.specs.declared.pairing.Paired.TheVariants.{Equal, Differed, FirstRestored, SecondRestored}

-- ---- the set of a pair

-- How two disks were found, and the set that both come to hold: the first's where that is not lost, else the second's.
-- A disk is lost where its bytes are unused.
abbrev pub IsPaired : Election → List ℕ → List ℕ → Paired → List Ballot → Type 0
IsPaired e one two Equal set = HoldsSet e one set × HoldsSet e two set
IsPaired e one two Differed set = HoldsSet e one set × ((other : List Ballot) × HoldsSet e two other × (other ≢ set))
IsPaired e one two FirstRestored set = IsUnused e one × HoldsSet e two set
IsPaired e one two SecondRestored set = HoldsSet e one set × IsUnused e two

-- neither is lost
abbrev pub AreCompared : List Ballot → List Ballot → Paired → Type 0
AreCompared set other paired = ((paired ≡ Equal) × (other ≡ set)) ⊎ ((paired ≡ Differed) × (other ≢ set))

abbrev pub IsPairSet : Election → List ℕ → List ℕ → List Ballot → Type 0
IsPairSet e one two set = (paired : Paired) × IsPaired e one two paired set

-- ---- why two disks are no pair

-- why a disk that is not lost holds no store
abbrev pub IsRefusedDisk : Election → DiskWhy → List ℕ → Type 0
IsRefusedDisk e (TooLarge size) bytes = (size ≡ length bytes) × (medium_size e < size)
IsRefusedDisk e (OtherElection header) bytes = IsRefusedMedium e bytes (recover.OtherElection header)
IsRefusedDisk e (Damaged cell) bytes = IsRefusedMedium e bytes (recover.Damaged cell)

-- the disk is lost, or holds a store
abbrev pub IsLostOrHolds : Election → List ℕ → Type 0
IsLostOrHolds e bytes = IsUnused e bytes ⊎ ((set : List Ballot) × HoldsSet e bytes set)

-- Why there is no pair. Of several refusals the first comes. Want of memory is told only where a bank of a disk is read: of
-- the first one, and then no call was made on the second; or of the second, once the first was looked at.
abbrev pub PairRefuses : {A B : Type 0} → DiskModel A → DiskModel B → Election → A → A → B → B → PairFault → Type 0
PairRefuses first second e one one_after two two_after (pairs.First why) =
    IfSome (first.seen one) (IsRefusedDisk e why) × (two_after ≡ two)
PairRefuses first second e one one_after two two_after (pairs.Second why) =
    IfSome (first.seen one) (IsLostOrHolds e) × IfSome (second.seen two) (IsRefusedDisk e why)
PairRefuses first second e one one_after two two_after pairs.BothLost =
    IfSome (first.seen one) (IsUnused e) × IfSome (second.seen two) (IsUnused e)
PairRefuses first second e one one_after two two_after pairs.FirstFault = Rose (first.faults one) (first.faults one_after)
PairRefuses first second e one one_after two two_after pairs.SecondFault =
    IfSome (first.seen one) (IsLostOrHolds e) × Rose (second.faults two) (second.faults two_after)
PairRefuses first second e one one_after two two_after pairs.Memory =
    (IfSome (first.seen one) (λ bytes. IsRefusedMedium e bytes recover.Memory) × (two_after ≡ two))
    ⊎ (IfSome (first.seen one) (IsLostOrHolds e) × IfSome (second.seen two) (λ bytes. IsRefusedMedium e bytes recover.Memory))

-- the fault of a disk that was not found to be lost or to hold a store
abbrev pub first_fault : FindFault → PairFault
first_fault (finds.Refused why) = pairs.First why
first_fault finds.DiskFault = pairs.FirstFault
first_fault finds.Memory = pairs.Memory

abbrev pub second_fault : FindFault → PairFault
second_fault (finds.Refused why) = pairs.Second why
second_fault finds.DiskFault = pairs.SecondFault
second_fault finds.Memory = pairs.Memory

-- a disk became the medium of this set, settled
pub record IsMade {D : Type 0} (model : DiskModel D) (e : Election) (set : List Ballot) (old new : D) : Type 0 where
  pub medium : AsTold model.seen old new (λ _ bytes. IsMediumOf e bytes set)
  pub settled : IsSettled model.seen model.calls model.may_leave new

-- Of two disks that are to be made the medium of this set one failed: the first, and then no call was made on the second;
-- or the second, once the first was made that.
abbrev pub MakeRefuses : {A B : Type 0} → DiskModel A → DiskModel B → Election → List Ballot → A → A → B → B → PairFault → Type 0
MakeRefuses first second e set one one_after two two_after pairs.FirstFault = Rose (first.faults one) (first.faults one_after) × (two_after ≡ two)
MakeRefuses first second e set one one_after two two_after pairs.SecondFault = Rose (second.faults two) (second.faults two_after) × IsMade first e set one one_after
MakeRefuses first second e set one one_after two two_after fault = ⊥

-- nothing was written to the disk, and a crash at any moment leaves what it might have left before
abbrev pub IsUnwritten : {D : Type 0} → DiskModel D → D → D → Type 0
IsUnwritten disk old new =
    (disk.seen new ≡ disk.seen old)
    × ((bytes : List ℕ) → disk.seen old ≡ Some bytes → LeavesOnly disk.calls disk.may_leave old new (leaves_now disk.calls disk.may_leave old))

-- the first disk was made the medium of the set of the pair
abbrev pub IsFirstMade : {A B : Type 0} → DiskModel A → DiskModel B → Election → A → A → B → Type 0
IsFirstMade first second e one one_after two =
    (set : List Ballot) × ((x y : List ℕ) → first.seen one ≡ Some x → second.seen two ≡ Some y → IsPairSet e x y set) × IsMade first e set one one_after

-- Unless a disk failed, neither was written. Where the first failed, the second was not; where the second failed, the first
-- was not, or was made what both were to be.
abbrev pub IsUnwrittenPair : {A B : Type 0} → DiskModel A → DiskModel B → Election → A → A → B → B → PairFault → Type 0
IsUnwrittenPair first second e one one_after two two_after pairs.FirstFault = IsUnwritten second two two_after
IsUnwrittenPair first second e one one_after two two_after pairs.SecondFault = IsUnwritten first one one_after ⊎ IsFirstMade first second e one one_after two
IsUnwrittenPair first second e one one_after two two_after fault = IsUnwritten first one one_after × IsUnwritten second two two_after

-- ---- what a crash leaves

-- they are unused still, or hold the set of before still, or hold this set
abbrev pub IsKeptOr : Election → (List Ballot → Type 0) → List ℕ → List ℕ → Type 0
IsKeptOr e IsNew bytes image =
    (IsUnused e bytes × IsUnused e image)
    ⊎ (HoldsSetOf e bytes image ⊎ ((set : List Ballot) × IsNew set × HoldsSet e image set))

-- Both were synced, and from then on each keeps what it held, or holds the set of the pair.
abbrev pub BothKept : {A B : Type 0} → DiskModel A → DiskModel B → Election → List ℕ → List ℕ → A → A → B → B → Type 0
BothKept first second e one two old new old_second new_second =
    LeavesOnlyOnceSynced first.calls first.may_leave old new (IsKeptOr e (IsPairSet e one two) one)
    × LeavesOnlyOnceSynced second.calls second.may_leave old_second new_second (IsKeptOr e (IsPairSet e one two) two)

-- What a crash leaves of both disks. The first is synced first: where that fails, nothing more is called. Then the second
-- is: where that fails, or a disk is refused, neither is written. Where both succeeded, each disk keeps what it held, or
-- holds the set of the pair.
abbrev pub PairLeaves : {A B : Type 0} → DiskModel A → DiskModel B → Election → List ℕ → List ℕ → A → A → B → B → Type 0
PairLeaves first second e one two old new old_second new_second =
    (KeepsCrashImages first.calls first.may_leave old new × (new_second ≡ old_second))
    ⊎ ((LeavesOnlyOnceSynced first.calls first.may_leave old new (λ image. image ≡ one)
    × ((new_second ≡ old_second) ⊎ SyncsFirst second.calls second.may_leave old_second new_second (λ image. image ≡ two)))
    ⊎ BothKept first second e one two old new old_second new_second)
