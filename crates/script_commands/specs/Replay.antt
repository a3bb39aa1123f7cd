-- What the command `replay` makes of a script.
use Rattle.std.specs.Prelude.{◌≡◌, ◌≤◌, Result, codes, length, true, false}
use Rattle.outside_io.specs.Outside.{Outside}
use Rattle.run_outcome.specs.Row.{Content, EndsWell, Row, TakesNone}
use Rattle.run_outcome.specs.Status.{ended_as}
use Rattle.run_outcome.specs.World.{Reported, World}
use Rattle.run_outcome.specs.declared.status.Status.{Status}
use Rattle.run_outcome.specs.declared.status.Status.TheVariants as status
use Rattle.run_outcome.specs.declared.status.Which.TheVariants as which
use Rattle.schedule_replay.specs.Ends.{ReplayEnds}
use Rattle.schedule_replay.specs.Input.{IsInput, ReplayInput}
use Rattle.schedule_replay.specs.Refusal.{AreLinesOf}
use Rattle.schedule_replay.specs.declared.fault.ReplayFault.{ReplayFault}
use Rattle.schedule_replay.specs.declared.fault.ReplayFault.TheVariants.{BadLine, TooLong, ReadFault, WriteFault, Memory}
use Rattle.store_spec.specs.Disk.{DiskModel}
use Rattle.store_spec.specs.Election.{Election}
use Rattle.store_spec.specs.Input.{lines_of, script_limit, taken_lines}

abbrev pub replay_status : ReplayFault → Status
replay_status (BadLine line why) = status.BadLine line why
replay_status TooLong = status.TooLong which.Script
replay_status ReadFault = status.ReadFault which.Script
replay_status WriteFault = status.WriteFault
replay_status Memory = status.Memory

-- All that a run of `replay` promises under an election: its status is that of the replay's answer.
pub record ReplayRunEnds {S K : Type 0} (e : Election) (status : Status) (before after : Outside S K) : Type 0 where
  pub answer : Result (Unit {0}) ReplayFault
  pub told : status ≡ ended_as replay_status answer
  pub replays : ReplayEnds e answer before after

-- ---- the row

-- the lines of a script within its limit are those of a valid input
abbrev pub HasInput : Election → Content → Type 0
HasInput e content =
    (length content.script ≤ script_limit) × (input : ReplayInput) × IsInput e input × AreLinesOf input (taken_lines (lines_of content.script))

abbrev replay_ends : {S K D : Type 0} → DiskModel D → Election → Status → Reported → World S K D → World S K D → Type 0
replay_ends model e status report before after = ReplayRunEnds e status before.streams after.streams

abbrev pub replay_row : Row
replay_row = record {
  word = codes "replay";
  further = TakesNone;
  touches = record { script = true; disk = false; more = false; report = false };
  served = HasInput;
  done = EndsWell;
  ends = replay_ends;
}
