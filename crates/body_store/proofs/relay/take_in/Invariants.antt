use Rattle.std.proofs.Common.{◌≡◌, ℕ, ◌<◌, length, slice_index, take}
use Rattle.store_spec.proofs.Common.{numbers_of}
use Rattle.body_store.specs.Contents.{all_listed}
use Rattle.body_store.specs.Moves.{IsRight, IsSought, arriving_bytes}
use Rattle.body_store.proofs.relay.take_in.Given as goal

-- the ballots of the lists so far are sought
abbrev pub invariant-lists : goal.invariant-lists
invariant-lists g l = record {
  first : l.first ≡ length (all_listed (take l.list-index l.lists));
  right : IsRight g.new.bytes_of l.cells (arriving_bytes g.new) l.plan;
  sought : (k : ℕ) → k < l.first → IsSought l.cells l.plan (slice_index (numbers_of g.new.ballots) k);
  bytes : l.plan.bytes.items ≡ l.initial.plan.bytes.items;
}

abbrev pub ghost-take_list : goal.ghost-take_list
ghost-take_list g a = g.new
