-- Faults of a bank as faults of recovery.
use Rattle.image_builder.specs.declared.read.ImageFault.{ImageFault}
use Rattle.image_builder.specs.declared.read.ImageFault.TheVariants as images
use Rattle.recovery.specs.declared.fault.MediumWhy.{MediumWhy}
use Rattle.recovery.specs.declared.fault.MediumWhy.TheVariants as media
use Rattle.recovery.specs.declared.fault.RecoverFault.{RecoverFault}
use Rattle.recovery.specs.declared.fault.RecoverFault.TheVariants.{NoStore, OtherElection, Damaged, Memory}

abbrev pub recover_fault : ImageFault → RecoverFault
recover_fault (images.OtherElection header) = OtherElection header
recover_fault (images.Damaged cell) = Damaged cell
recover_fault images.Memory = Memory

-- why a medium that was read is refused
abbrev pub medium_fault : MediumWhy → RecoverFault
medium_fault media.NoStore = NoStore
medium_fault (media.OtherElection header) = OtherElection header
medium_fault (media.Damaged cell) = Damaged cell
