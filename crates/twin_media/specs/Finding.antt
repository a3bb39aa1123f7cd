-- What a disk is found to hold.
use Rattle.std.specs.Prelude.{◌≡◌, ℕ, List, Option, None, Some, option_map}
use Rattle.std.specs.Borrow.{Bor}
use Rattle.bank_medium.specs.Banks.{bank_named}
use Rattle.body_store.specs.Contents.{IsStored}
use Rattle.recovery.specs.Canonical.{IsChoice, IsReadAs}
use Rattle.recovery.specs.Refused.{IsRefusedMedium}
use Rattle.recovery.specs.declared.fault.RecoverFault.TheVariants as recover
use Rattle.store_spec.specs.Election.{Election}
use Rattle.store_spec.specs.Medium.{IsUnused}
use Rattle.twin_media.specs.Pairing.{IsRefusedDisk}
use Rattle.twin_media.specs.declared.fault.FindFault.{FindFault}
use Rattle.twin_media.specs.declared.fault.FindFault.TheVariants.{Refused, DiskFault, Memory}
use Rattle.twin_media.specs.declared.finding.Held.{Held}

-- the store is one of this election, was read from these bytes, and the other bank's gate is as it says
pub record IsHeld (e : Election) (held : Held) (bytes : List ℕ) : Type 0 where
  pub read : IsReadAs e bytes (bank_named held.bank) held.store.ballots
  pub choice : IsChoice e bytes (bank_named held.bank) held.open_too

abbrev pub IsHeldUnder : Election → Held → Type 0
IsHeldUnder e held = (held.store.election ≡ e) × IsStored held.store

-- the bytes are lost, or this was read from them
abbrev pub HasFound : Election → Option Held → List ℕ → Type 0
HasFound e None bytes = IsUnused e bytes
HasFound e (Some held) bytes = IsHeld e held bytes

-- the same of what is lent
abbrev pub IsFound : Election → Option (Bor Held) → List ℕ → Type 0
IsFound e found bytes = HasFound e (option_map (λ held. held.now) found) bytes

-- why nothing was found: want of memory is told only where a bank is read
abbrev pub FindRefuses : Election → FindFault → List ℕ → Type 0
FindRefuses e (Refused why) bytes = IsRefusedDisk e why bytes
FindRefuses e DiskFault bytes = Unit {0}
FindRefuses e Memory bytes = IsRefusedMedium e bytes recover.Memory

-- nothing was written, unless the disk failed
abbrev pub IsUnchangedByFind : FindFault → Option (List ℕ) → Option (List ℕ) → Type 0
IsUnchangedByFind DiskFault old new = Unit {0}
IsUnchangedByFind fault old new = new ≡ old
