use Rattle.std.proofs.Common.{◌≡◌, ◌+◌, ◌*◌, ◌≤◌, length}
use Rattle.body_store.proofs.Planning.{AreSoughtUpTo}
use Rattle.body_store.specs.Moves.{IsRight, StayNoted, arriving_bytes}
use Rattle.body_store.proofs.relay.take_out.Given as goal

-- what is known of the changes so far
abbrev pub invariant-loop-change : goal.invariant-loop-change
invariant-loop-change g l = record {
  right : IsRight g.new.bytes_of l.cells (arriving_bytes g.new) l.plan;
  sought : AreSoughtUpTo l.cells l.plan l.changes l.change-index;
  still : StayNoted l.cells l.initial.plan l.plan;
  place : length (arriving_bytes g.new) + length l.plan.bytes.items ≡ l.place * l.size;
  few : l.place ≤ l.front + l.change-index;
}
