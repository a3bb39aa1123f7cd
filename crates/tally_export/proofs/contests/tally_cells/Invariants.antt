use Rattle.std.proofs.Common.{◌≢◌, ◌-◌, ◌<◌, ◌≤◌, get_or}
use Rattle.tally_export.specs.Counted.{IsTallyOf}
use Rattle.tally_export.specs.Ranges.{ballots_in}
use Rattle.tally_export.proofs.contests.tally_cells.Given as goal

-- the ballots of the first cells are counted, and the next cell has a number
abbrev pub invariant-cells : goal.invariant-cells
invariant-cells l = record {
  onward : l.from ≤ l.cell;
  within : l.cell ≤ l.end;
  some : l.cell < l.end → get_or l.cells l.cell 0 ≢ 0;
  counted : IsTallyOf l.closed.election (ballots_in l.closed l.from l.cell) l.all;
}

abbrev pub decreases-cells : goal.decreases-cells
decreases-cells l = l.end - l.cell
