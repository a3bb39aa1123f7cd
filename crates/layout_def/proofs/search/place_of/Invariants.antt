use Rattle.std.proofs.Common.{ℕ, ◌<◌, ◌≤◌, ◌-◌, length, slice_index}
use Rattle.layout_def.proofs.search.place_of.Given as goal

-- all from the home on are greater so far
abbrev pub invariant-loop-place : goal.invariant-loop-place
invariant-loop-place g l = record {
  from_home : g.O.Order.home l.order l.v ≤ l.place;
  greater : (k : ℕ) → g.O.Order.home l.order l.v ≤ k → k < l.place → l.v < slice_index l.cells k;
}

abbrev pub decreases-loop-place : goal.decreases-loop-place
decreases-loop-place g l = length l.cells - l.place
