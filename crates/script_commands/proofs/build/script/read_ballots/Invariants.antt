use Rattle.std.proofs.Common.{◌≡◌, length}
use Rattle.outside_io.proofs.Reading.{ReadSoFar}
use Rattle.script_commands.proofs.Reading.{AreSpelled}
use Rattle.script_commands.specs.Ballots.{ballots_so_far, AreGoodBallots}
use Rattle.script_commands.proofs.build.script.read_ballots.Given as goal

-- the lines so far spell the ballots so far, and nothing failed
abbrev pub invariant-lines : goal.invariant-lines
invariant-lines g l = record {
  read : ReadSoFar (AreSpelled l.election (ballots_so_far l.ballots)) l.lines (g.S.Source.left l.initial.script) (g.S.Source.left l.script);
  sound : AreGoodBallots l.election l.ballots;
  counted : l.count ≡ length (ballots_so_far l.ballots);
  no_fault : g.S.Source.faults l.script ≡ g.S.Source.faults l.initial.script;
}

-- each line takes a byte or more of the room
abbrev pub decreases-lines : goal.decreases-lines
decreases-lines g l = l.lines.room
