use Rattle.std.proofs.Common.{◌≡◌, ◌⊎◌, ℕ, ◌<◌, length, map, slice_index, take}
use Rattle.store_spec.proofs.Common.{Contains, header_size}
use Rattle.body_store.specs.Moves.{IsLeft, cell_in}
use Rattle.body_store.proofs.relay.clear_left.Given as goal

-- cells that were not left, and those that were seen, have the bytes of their numbers
abbrev pub invariant-loop-change : goal.invariant-loop-change
invariant-loop-change g l = record {
  after : (cell : ℕ) → cell < length l.cells
      → (¬ IsLeft g.was.numbers l.cells cell) ⊎ Contains (map (λ change. change.cell) (take l.change-index l.changes)) cell
      → cell_in l.size cell l.image ≡ g.was.bytes_of (slice_index l.cells cell);
  header : take header_size l.image ≡ take header_size l.initial.image;
}
