use Rattle.std.proofs.Common.{◌≡◌}
use Rattle.ballot_record.specs.Format.{ballot_at}
use Rattle.merge_media.proofs.Running.{IsRun}
use Rattle.merge_media.proofs.adding.joined.Given as goal

-- the ballots at the first places were joined
abbrev pub invariant-places : goal.invariant-places
invariant-places l = record {
  run : IsRun l.kept.ballots l.closed.ballots l.ballots.ballots l.next l.place-index l.fn.dispute l.dispute;
  election : l.ballots.election ≡ l.kept.election;
}

-- the ballot of the cell
abbrev pub ghost-meet : goal.ghost-meet
ghost-meet a = ballot_at a.kept.now.election a.cell.now
