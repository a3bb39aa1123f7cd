use Rattle.std.proofs.Common.{ℕ, ◌<◌, ◌≤◌, slice_index}
use Rattle.body_store.proofs.moves.find_near.Given as goal

-- all from the home on are greater so far
abbrev pub invariant-loop-cell : goal.invariant-loop-cell
invariant-loop-cell l = (k : ℕ) → l.home ≤ k → k < l.cell → l.number < slice_index l.cells k
