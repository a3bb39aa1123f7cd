use Rattle.std.proofs.Common.{ℕ, List, map}
use Rattle.body_store.proofs.Filled.{IsListedTo}
use Rattle.body_store.proofs.lookup.push_filled.Given as goal
use Rattle.body_store.specs.Places.{AreAt}
use Rattle.layout_def.specs.Changes.{StandFrom}

-- the cells that are marked no more are listed
abbrev pub invariant-loop-filled : goal.invariant-loop-filled
invariant-loop-filled l = record {
  listed : (n : ℕ) × IsListedTo l.block (map (λ place. place.number) l.fn.places.items) n l.filled (map (λ place. place.number) l.places.items);
  at : (cells : List ℕ) → StandFrom l.first l.block cells → AreAt cells l.fn.places.items → AreAt cells l.places.items;
}

abbrev pub decreases-loop-filled : goal.decreases-loop-filled
decreases-loop-filled l = l.filled
