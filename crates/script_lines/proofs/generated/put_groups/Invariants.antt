use Rattle.std.proofs.Common.{◌≡◌, ◌+◌, ◌-◌, ◌*◌, ◌≤◌, ◌++◌, drop, length}
use Rattle.script_lines.proofs.Ballots.{groups_from}
use Rattle.script_lines.proofs.generated.put_groups.Given as goal

-- the groups of the last contests are put
abbrev pub invariant-contests : goal.invariant-contests
invariant-contests l = record {
  text : drop l.start l.line ≡ groups_from l.election l.i l.contest (length l.election.contests + 1 - l.contest) ++ drop l.end l.fn.line;
  contest : (1 ≤ l.contest) × (l.contest ≤ length l.election.contests);
  start : (l.start ≤ l.end) × (l.end ≤ l.start + 21 * (length l.election.contests + 1 - l.contest));
}

abbrev pub decreases-contests : goal.decreases-contests
decreases-contests l = l.contest - 1
