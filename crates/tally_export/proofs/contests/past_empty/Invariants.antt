use Rattle.std.proofs.Common.{◌≡◌, ℕ, ◌-◌, ◌<◌, ◌≤◌, slice_index}
use Rattle.tally_export.proofs.contests.past_empty.Given as goal

-- the cells so far are empty
abbrev pub invariant-cells : goal.invariant-cells
invariant-cells l = record {
  onward : l.from ≤ l.cell;
  within : l.cell ≤ l.end;
  empty : (k : ℕ) → l.from ≤ k → k < l.cell → slice_index l.cells k ≡ 0;
}

abbrev pub decreases-cells : goal.decreases-cells
decreases-cells l = l.end - l.cell
