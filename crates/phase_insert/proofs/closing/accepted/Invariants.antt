use Rattle.std.proofs.Common.{◌≡◌, map, take}
use Rattle.phase_insert.proofs.closing.accepted.Given as goal
use Rattle.phase_insert.specs.Ends.{all_accepted}
use Rattle.phase_insert.specs.Tray.{casts_of}

-- the accepted ballots of the trays so far
abbrev pub invariant-loop-tray : goal.invariant-loop-tray
invariant-loop-tray l = record {
  election : l.accepted.election ≡ l.election;
  ballots : l.accepted.ballots ≡ all_accepted (map casts_of (take l.tray-index l.trays));
}
