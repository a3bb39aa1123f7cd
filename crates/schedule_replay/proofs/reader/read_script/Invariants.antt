use Rattle.std.proofs.Common.{◌≡◌, ◌+◌, ◌≤◌}
use Rattle.store_spec.proofs.Common.{script_limit}
use Rattle.outside_io.proofs.Reading.{ReadSoFar}
use Rattle.schedule_replay.proofs.Reading.{AreTaken}
use Rattle.schedule_replay.proofs.reader.read_script.Given as goal

-- so many lines were taken, and nothing failed
abbrev pub invariant-lines : goal.invariant-lines
invariant-lines g l = record {
  read : ReadSoFar (AreTaken l.election l.script l.count) l.lines (g.S.Source.left l.initial.source) (g.S.Source.left l.source);
  few : l.count + l.lines.room ≤ script_limit;
  no_fault : g.S.Source.faults l.source ≡ g.S.Source.faults l.initial.source;
}

-- each line takes a byte or more of the room
abbrev pub decreases-lines : goal.decreases-lines
decreases-lines g l = l.lines.room
