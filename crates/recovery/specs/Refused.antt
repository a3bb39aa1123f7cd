-- Why no store comes back from a medium.
use Rattle.std.specs.Prelude.{◌≡◌, ◌≢◌, ◌⊎◌, ℕ, List, length, Option}
use Rattle.image_builder.specs.Reading.{IsRefusedBank}
use Rattle.image_builder.specs.declared.read.ImageFault.{ImageFault}
use Rattle.image_builder.specs.declared.read.ImageFault.TheVariants as images
use Rattle.recovery.specs.Canonical.{IsReadFrom}
use Rattle.recovery.specs.declared.fault.RecoverFault.{RecoverFault}
use Rattle.recovery.specs.declared.fault.RecoverFault.TheVariants.{NoStore, OtherElection, Damaged, DiskFault, Memory}
use Rattle.store_spec.specs.Ballot.{Ballot}
use Rattle.store_spec.specs.Disk.{DiskModel, LeavesOnly, leaves_now}
use Rattle.store_spec.specs.Election.{Election, medium_size}
use Rattle.store_spec.specs.Medium.{Bank, HoldsSet, IsChosen, IsOpen, bank_of}
use Rattle.store_spec.specs.Medium.Bank.{A, B}

-- there are as many bytes as a medium has, and the bank that is read is refused for this reason
pub record IsRefusedInBank (e : Election) (bytes : List ℕ) (why : ImageFault) : Type 0 where
  pub size : length bytes ≡ medium_size e
  pub bank : Bank
  pub chosen : IsChosen e bytes bank
  pub refused : IsRefusedBank e (bank_of e bank bytes) why

-- No bank is read, or the one that is read is the image of no set. Want of memory is told only where a bank is read, and
-- faults of the disk by no bytes.
abbrev pub IsRefusedMedium : Election → List ℕ → RecoverFault → Type 0
IsRefusedMedium e bytes NoStore = (length bytes ≢ medium_size e) ⊎ ((¬ IsOpen e A bytes) × (¬ IsOpen e B bytes))
IsRefusedMedium e bytes (OtherElection header) = IsRefusedInBank e bytes (images.OtherElection header)
IsRefusedMedium e bytes (Damaged cell) = IsRefusedInBank e bytes (images.Damaged cell)
IsRefusedMedium e bytes DiskFault = Unit {0}
IsRefusedMedium e bytes Memory = (bank : Bank) × IsReadFrom e bytes bank

-- what a read gives stays, unless the disk failed
abbrev pub IsUnchangedAt : RecoverFault → Option (List ℕ) → Option (List ℕ) → Type 0
IsUnchangedAt DiskFault old new = Unit {0}
IsUnchangedAt fault old new = new ≡ old

-- they hold a set, and it is the one that the others hold
abbrev pub HoldsSetOf : Election → List ℕ → List ℕ → Type 0
HoldsSetOf e others bytes = (set : List Ballot) × HoldsSet e others set × HoldsSet e bytes set

-- At each moment of a recovery that gave no store a crash leaves what it might have left at the start. Only where the
-- disk failed may it leave others, which hold the set that was read.
abbrev pub IsUnharmedAt : {D : Type 0} → DiskModel D → Election → List ℕ → RecoverFault → D → D → Type 0
IsUnharmedAt model e bytes DiskFault old new =
    LeavesOnly model.calls model.may_leave old new
    (λ image. leaves_now model.calls model.may_leave old image ⊎ HoldsSetOf e bytes image)
IsUnharmedAt model e bytes fault old new =
    LeavesOnly model.calls model.may_leave old new (leaves_now model.calls model.may_leave old)
