use Rattle.layout_def.proofs.Carried.{HoldsFirst}
use Rattle.layout_def.proofs.walk.put_all.Given as goal
use Rattle.store_spec.proofs.Common.{IsOrdered}

abbrev pub invariant-loop-number : goal.invariant-loop-number
invariant-loop-number g l = record {
  ordered : IsOrdered (g.O.Order.home l.order) l.cells;
  first : HoldsFirst l.number-index l.numbers l.cells;
}
