use Rattle.std.proofs.Common.{◌≡◌, ℕ, ◌+◌, ◌<◌, ◌≤◌, slice_index}
use Rattle.store_spec.proofs.Common.{numbers_of}
use Rattle.body_store.specs.Moves.{IsRight, IsSought, StayNoted, arriving_bytes}
use Rattle.body_store.proofs.relay.take_list.Given as goal

-- the ballots so far are sought
abbrev pub invariant-ballots : goal.invariant-ballots
invariant-ballots g l = record {
  right : IsRight g.new.bytes_of l.cells (arriving_bytes g.new) l.plan;
  sought : (k : ℕ) → l.first ≤ k → k < l.first + l.place → IsSought l.cells l.plan (slice_index (numbers_of g.new.ballots) k);
  still : StayNoted l.cells l.initial.plan l.plan;
  bytes : l.plan.bytes.items ≡ l.initial.plan.bytes.items;
}
