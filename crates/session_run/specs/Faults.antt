-- Faults of the parts of a run as faults of the run.
use Rattle.outside_io.specs.declared.lines.LineEndFault.{LineEndFault}
use Rattle.outside_io.specs.declared.lines.LineEndFault.TheVariants as line
use Rattle.phase_gate.specs.declared.fault.SessionFault.{SessionFault}
use Rattle.phase_gate.specs.declared.fault.SessionFault.TheVariants as session
use Rattle.recovery.specs.declared.fault.RecoverFault.{RecoverFault}
use Rattle.recovery.specs.declared.fault.RecoverFault.TheVariants as recover
use Rattle.session_run.specs.declared.fault.RunFault.{RunFault}
use Rattle.session_run.specs.declared.fault.RunFault.TheVariants.{NoStore, OtherElection, Damaged, TooLong, ReadFault, DiskFault, WriteFault, Memory}

abbrev pub run_fault : RecoverFault → RunFault
run_fault recover.NoStore = NoStore
run_fault (recover.OtherElection header) = OtherElection header
run_fault (recover.Damaged cell) = Damaged cell
run_fault recover.DiskFault = DiskFault
run_fault recover.Memory = Memory

abbrev pub session_fault : SessionFault → RunFault
session_fault session.DiskFault = DiskFault
session_fault session.WriteFault = WriteFault
session_fault session.Memory = Memory

abbrev pub line_fault : LineEndFault → RunFault
line_fault line.TooLong = TooLong
line_fault line.ReadFault = ReadFault
