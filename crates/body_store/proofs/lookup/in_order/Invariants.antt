use Rattle.std.proofs.Common.{◌≡◌, ◌-◌, ◌≤◌, length, map, take}
use Rattle.store_spec.proofs.Common.{numbers_in}
use Rattle.body_store.proofs.lookup.in_order.Given as goal
use Rattle.body_store.specs.Places.{AreAt}

-- the numbers of the cells so far are listed
abbrev pub invariant-loop-at : goal.invariant-loop-at
invariant-loop-at l = record {
  within : l.at ≤ length l.cells;
  numbers : map (λ place. place.number) l.places.items ≡ numbers_in (take l.at l.cells);
  are : AreAt l.cells l.places.items;
}

abbrev pub decreases-loop-at : goal.decreases-loop-at
decreases-loop-at l = length l.cells - l.at
