use Rattle.std.proofs.Common.{ℕ, ◌<◌, ◌≤◌, slice_index}
use Rattle.layout_def.proofs.search.stands_in_order.Given as goal

-- all from here on are greater
abbrev pub invariant-loop-from : goal.invariant-loop-from
invariant-loop-from g l = record {
  up_to_place : l.from ≤ l.place;
  greater : (k : ℕ) → l.from ≤ k → k < l.place → l.v < slice_index l.cells k;
}

abbrev pub decreases-loop-from : goal.decreases-loop-from
decreases-loop-from g l = l.from
