use Rattle.std.proofs.Common.{◌-◌, ◌≤◌, length}
use Rattle.body_store.specs.Fronts.{IsListStart}
use Rattle.body_store.proofs.relay.list_with.Given as goal

-- the ballots of the lists so far come before the place
abbrev pub invariant-lists : goal.invariant-lists
invariant-lists l = record {
  front : IsListStart l.lists l.front;
  past : l.front.first ≤ l.place;
}

abbrev pub decreases-lists : goal.decreases-lists
decreases-lists l = length l.lists - l.front.list
