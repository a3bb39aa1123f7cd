use Rattle.std.proofs.Common.{◌≡◌, ◌++◌, take}
use Rattle.phase_insert.proofs.closing.push_accepted.Given as goal
use Rattle.phase_insert.specs.Tray.{ballots_that, casts_of, is_accepted}

abbrev pub invariant-loop-place : goal.invariant-loop-place
invariant-loop-place l = record {
  election : l.accepted.election ≡ l.initial.accepted.election;
  ballots : l.accepted.ballots ≡ l.initial.accepted.ballots ++ ballots_that is_accepted (take l.place (casts_of l.tray));
}
