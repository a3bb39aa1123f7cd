use Rattle.std.proofs.Common.{◌≢◌, ℕ, ◌<◌, slice_index}
use Rattle.store_spec.proofs.Common.{MayStand}
use Rattle.layout_def.proofs.search.is_ordered.Given as goal

abbrev pub invariant-loop-place : goal.invariant-loop-place
invariant-loop-place g l =
    (k : ℕ) → k < l.place → slice_index l.cells k ≢ 0 → MayStand (g.O.Order.home l.order) l.cells (slice_index l.cells k) k
