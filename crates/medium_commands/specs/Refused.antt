-- Why a medium is refused, as a status.
use Rattle.recovery.specs.declared.fault.RecoverFault.{RecoverFault}
use Rattle.recovery.specs.declared.fault.RecoverFault.TheVariants.{NoStore, OtherElection, Damaged, DiskFault, Memory}
use Rattle.run_outcome.specs.declared.status.Status.{Status}
use Rattle.run_outcome.specs.declared.status.Status.TheVariants as status

abbrev pub refused_status : RecoverFault → Status
refused_status NoStore = status.NoStore
refused_status (OtherElection header) = status.OtherElection header
refused_status (Damaged cell) = status.Damaged cell
refused_status DiskFault = status.DiskFault
refused_status Memory = status.Memory
