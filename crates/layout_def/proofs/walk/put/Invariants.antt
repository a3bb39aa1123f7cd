use Rattle.std.proofs.Common.{◌≢◌, ℕ, ◌↔◌}
use Rattle.store_spec.proofs.Common.{IsOrdered, MayStand}
use Rattle.layout_def.proofs.Carried.{IsAbout}
use Rattle.layout_def.proofs.walk.put.Given as goal

abbrev pub invariant-loop-place : goal.invariant-loop-place
invariant-loop-place g l = record {
  ordered : IsOrdered (g.O.Order.home l.order) l.cells;
  stands : MayStand (g.O.Order.home l.order) l.cells l.carried l.place;
  some : l.carried ≢ 0;
  about : (v : ℕ) → v ≢ 0 → IsAbout l.cells l.carried v ↔ IsAbout l.fn.cells l.number v;
}
