-- Why a disk is not taken for a new store, and what a crash may leave of one that is.
use Rattle.std.specs.Prelude.{◌≡◌, ◌⊎◌, ◌<◌, ℕ, List, [], length, Option}
use Rattle.checkpoint.specs.declared.fresh.FillFault.{FillFault}
use Rattle.checkpoint.specs.declared.fresh.FillFault.TheVariants as fills
use Rattle.checkpoint.specs.declared.fresh.InitFault.{InitFault}
use Rattle.checkpoint.specs.declared.fresh.InitFault.TheVariants.{WrongSize, Exists, DiskFault, Memory}
use Rattle.store_spec.specs.Ballot.{Ballot}
use Rattle.store_spec.specs.Disk.{DiskModel, LeavesOnly, leaves_now}
use Rattle.store_spec.specs.Election.{Election, medium_size}
use Rattle.store_spec.specs.Medium.{HoldsSet, IsOpen, IsUnused}
use Rattle.store_spec.specs.Medium.Bank.{A, B}

-- a disk that is not filled is not made a new medium either
abbrev pub init_fault : FillFault → InitFault
init_fault (fills.WrongSize size) = WrongSize size
init_fault fills.Exists = Exists
init_fault fills.DiskFault = DiskFault

-- There are more bytes than a medium has, or as many and a gate is open. Faults of the disk are told by no bytes, and want
-- of memory is told only of a disk that is unused.
abbrev pub IsInitRefused : Election → List ℕ → InitFault → Type 0
IsInitRefused e bytes (WrongSize size) = (size ≡ length bytes) × (medium_size e < size)
IsInitRefused e bytes Exists = (length bytes ≡ medium_size e) × (IsOpen e A bytes ⊎ IsOpen e B bytes)
IsInitRefused e bytes DiskFault = Unit {0}
IsInitRefused e bytes Memory = IsUnused e bytes

-- nothing was written, unless the disk failed
abbrev pub IsUnchangedByInit : InitFault → Option (List ℕ) → Option (List ℕ) → Type 0
IsUnchangedByInit DiskFault old new = Unit {0}
IsUnchangedByInit fault old new = new ≡ old

-- nor does a crash at any moment leave what it might not have left before, unless the disk failed
abbrev pub IsUnharmedByInit : {D : Type 0} → DiskModel D → InitFault → D → D → Type 0
IsUnharmedByInit model DiskFault old new = Unit {0}
IsUnharmedByInit model fault old new =
    LeavesOnly model.calls model.may_leave old new (leaves_now model.calls model.may_leave old)

-- these are unused still, or hold this set
abbrev pub IsUnusedOrHolds : Election → List Ballot → List ℕ → Type 0
IsUnusedOrHolds e set image = IsUnused e image ⊎ HoldsSet e image set

-- Nothing was written yet to a disk that had the first bytes, or it was unused, and these are so still or hold this set.
abbrev pub IsUntouchedOr : Election → List Ballot → List ℕ → List ℕ → Type 0
IsUntouchedOr e set bytes image = (image ≡ bytes) ⊎ (IsUnused e bytes × IsUnusedOrHolds e set image)

abbrev pub IsUntouchedOrNew : Election → List ℕ → List ℕ → Type 0
IsUntouchedOrNew e = IsUntouchedOr e []
