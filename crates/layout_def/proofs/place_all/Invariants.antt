use Rattle.std.proofs.Common.{◌≡◌, length, take, drop}
use Rattle.store_spec.proofs.Common.{laid_out}
use Rattle.layout_def.specs.Pointers.{AreSound}
use Rattle.layout_def.proofs.place_all.Given as goal

abbrev pub invariant-loop-v : goal.invariant-loop-v
invariant-loop-v g l = record {
  left : l.waiting.items ≡ take (length l.waiting.items) l.fn.waiting.items;
  placed : l.cells ≡ laid_out (g.O.Order.home l.order) (length l.fn.cells) (drop (length l.waiting.items) l.fn.waiting.items);
  sound : AreSound l.cells l.onward;
}

abbrev pub decreases-loop-v : goal.decreases-loop-v
decreases-loop-v g l = goal.left-loop-v g l
