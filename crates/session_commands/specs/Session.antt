-- What the command `session` makes of a script and a medium.
use Rattle.std.specs.Prelude.{◌≡◌, ◌≤◌, Result, codes, length, map, true, false}
use Rattle.outside_io.specs.Outside.{Input, Output}
use Rattle.phase_gate.specs.Around.{Around}
use Rattle.phase_gate.specs.declared.report.Report.{Report}
use Rattle.run_outcome.specs.Row.{Content, EndsWell, Row, TakesNone}
use Rattle.run_outcome.specs.Status.{ended_as}
use Rattle.run_outcome.specs.World.{IsAlone, Reported, World, nothing_reported}
use Rattle.run_outcome.specs.declared.status.Status.{Status}
use Rattle.run_outcome.specs.declared.status.Status.TheVariants as status
use Rattle.run_outcome.specs.declared.status.Which.TheVariants as which
use Rattle.session_run.specs.Ends.{SessionEnds}
use Rattle.session_run.specs.declared.fault.RunFault.{RunFault}
use Rattle.session_run.specs.declared.fault.RunFault.TheVariants.{NoStore, OtherElection, Damaged, TooLong, ReadFault, DiskFault, WriteFault, Memory}
use Rattle.store_spec.specs.Disk.{DiskModel}
use Rattle.store_spec.specs.Election.{Election}
use Rattle.store_spec.specs.Input.{script_limit}
use Rattle.store_spec.specs.Medium.{HoldsSome}

-- the report of the code, seen as what a run reports
abbrev pub reported : Report → Reported
reported report = record {
  marks = report.marks.items;
  others = map (λ list. list.items) report.others.items;
  begun = report.begun;
  held = report.held;
}

-- the sink, the disk and the report
abbrev pub with_report : {K D : Type 0} → Output K → D → Reported → Around K D
with_report sink disk report = record {
  sink = sink;
  disk = disk;
  marks = report.marks;
  others = report.others;
  held = report.held;
}

abbrev pub run_status : RunFault → Status
run_status NoStore = status.NoStore
run_status (OtherElection header) = status.OtherElection header
run_status (Damaged cell) = status.Damaged cell
run_status TooLong = status.TooLong which.Script
run_status ReadFault = status.ReadFault which.Script
run_status DiskFault = status.DiskFault
run_status WriteFault = status.WriteFault
run_status Memory = status.Memory

-- All that a run of `session` promises under an election: its status is that of the session's answer.
pub record SessionRunEnds {S K D : Type 0} (model : DiskModel D) (e : Election) (status : Status) (old new : Input S) (before after : Around K D) : Type 0 where
  pub answer : Result (Unit {0}) RunFault
  pub told : status ≡ ended_as run_status answer
  pub ends : SessionEnds model (λ text. text) e answer old new before after

-- ---- the row

-- a medium that holds a set, and any script within its limit
abbrev pub HasSession : Election → Content → Type 0
HasSession e content = HoldsSome e content.disk × (length content.script ≤ script_limit)

abbrev session_ends : {S K D : Type 0} → DiskModel D → Election → Status → Reported → World S K D → World S K D → Type 0
session_ends model e status report before after =
    SessionRunEnds model e status before.streams.script after.streams.script
    (with_report before.streams.sink before.disk nothing_reported) (with_report after.streams.sink after.disk report)
    × IsAlone report

abbrev pub session_row : Row
session_row = record {
  word = codes "session";
  further = TakesNone;
  touches = record { script = true; disk = true; more = false; report = true };
  served = HasSession;
  done = EndsWell;
  ends = session_ends;
}
