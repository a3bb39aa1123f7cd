-- How a session on a store in parts ends that has just been opened.
use Rattle.std.specs.Prelude.{◌≡◌, ℕ, List, [], length, None, Option, Some, Result, Err}
use Rattle.outside_io.specs.Outside.{Input, Output}
use Rattle.part_commands.specs.Part.{IsStatusOf, disk_status, part_model}
use Rattle.run_outcome.specs.Status.{ended_as}
use Rattle.run_outcome.specs.World.{Reported, nothing_reported}
use Rattle.run_outcome.specs.declared.status.Status.{Status}
use Rattle.session_commands.specs.Session.{run_status, with_report}
use Rattle.session_run.specs.Ends.{BegunWith, HasBegun}
use Rattle.session_run.specs.declared.fault.RunFault.{RunFault}
use Rattle.session_run.specs.declared.fault.RunFault.TheVariants as run
use Rattle.store_spec.specs.Ballot.{Ballot}
use Rattle.store_spec.specs.Disk.{DiskModel}
use Rattle.store_spec.specs.Election.{Election}
use Rattle.store_spec.specs.Session.{begun}

-- the status of an answer, where this part's disk failed, if one did
abbrev pub EndsAs : Result (Unit {0}) RunFault → Option ℕ → Status → Type 0
EndsAs (Err run.DiskFault) (Some part) a = a ≡ disk_status part
EndsAs answer failed a = a ≡ ended_as run_status answer

-- so many ballots are held, and nothing else is reported yet
abbrev pub only_held : ℕ → Reported
only_held held = record { marks = []; others = []; begun = None; held = held }

-- A session with this set was handled as a run promises, seen from whatever disks on it has begun.
pub record Handles {S K D : Type 0} (model : DiskModel D) (e : Election) (set : List Ballot) (a : Status) (report : Reported)
    (old new : Input S) (sink sunk : Output K) (ready after : D) (more now : List D) : Type 0 where
  pub answer : Result (Unit {0}) RunFault
  pub is : IsStatusOf model answer a ready after more now
  pub goes_on : (from : D × List D) → length from.1 ≡ length more
      → HasBegun (part_model model (length more)) e set (begun set) (with_report sink from nothing_reported)
      (with_report sink (ready, more) (only_held (length set)))
      → BegunWith (part_model model (length more)) (λ text. text) e set answer old new
      (with_report sink from nothing_reported) (with_report sunk (after, now) report)
  pub rows : length report.others ≡ length report.marks
  pub no_pair : report.begun ≡ None
