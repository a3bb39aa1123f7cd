-- How a run ends, as a status: of what a command answered, and which were decided by what was read.
use Rattle.std.specs.Prelude.{Result, Ok as Fine, Err}
use Rattle.run_outcome.specs.declared.status.Status.{Status}
use Rattle.run_outcome.specs.declared.status.Status.TheVariants.{Ok, DiskFault, ReadFault, WriteFault, Memory, OtherDiskFault}

-- the status is neither a fault of the outside nor want of memory
abbrev pub IsDecided : Status → Type 0
IsDecided DiskFault = ⊥
IsDecided (ReadFault which) = ⊥
IsDecided WriteFault = ⊥
IsDecided Memory = ⊥
IsDecided (OtherDiskFault index) = ⊥
IsDecided status = Unit {0}

-- the status of what a command answered
abbrev pub ended : Result (Unit {0}) Status → Status
ended (Fine done) = Ok
ended (Err status) = status

-- the same of a call whose faults have these statuses
abbrev pub ended_as : {F : Type 0} → (F → Status) → Result (Unit {0}) F → Status
ended_as fault_status (Fine done) = Ok
ended_as fault_status (Err fault) = fault_status fault
