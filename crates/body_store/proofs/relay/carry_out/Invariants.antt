use Rattle.std.proofs.Common.{◌≡◌, ◌⊎◌, ℕ, ◌<◌, length, slice_index, take}
use Rattle.store_spec.proofs.Common.{header_size}
use Rattle.body_store.specs.Fronts.{IsListStart}
use Rattle.body_store.specs.Moves.{IsMoved, cell_in}
use Rattle.body_store.proofs.relay.carry_out.Given as goal

-- cells that stay, and those that were written, have the bytes of their numbers
abbrev pub invariant-loop-one : goal.invariant-loop-one
invariant-loop-one g l = record {
  after : (cell : ℕ) → cell < length l.cells
      → (slice_index g.was.numbers cell ≡ slice_index l.cells cell) ⊎ IsMoved (take l.one-index l.plan.moves.items) cell
      → cell_in l.size cell l.image ≡ g.was.bytes_of (slice_index l.cells cell);
  header : take header_size l.image ≡ take header_size l.initial.image;
  front : IsListStart l.lists l.front;
}

abbrev pub ghost-waiting : goal.ghost-waiting
ghost-waiting g a = g.was.bytes_of
