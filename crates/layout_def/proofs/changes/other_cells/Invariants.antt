use Rattle.std.proofs.Common.{◌≡◌, ℕ, ◌<◌, ◌≤◌, slice_index}
use Rattle.store_spec.proofs.Common.{bit_at, nat_eq, not}
use Rattle.std.specs.Int.{from_bool}
use Rattle.layout_def.proofs.changes.other_cells.Given as goal

-- the cells so far are marked
abbrev pub invariant-loop-place : goal.invariant-loop-place
invariant-loop-place l = record {
  marked : (k : ℕ) → k < l.place → bit_at l.others k ≡ from_bool (not (nat_eq (slice_index l.old k) (slice_index l.new k)));
  none : (k : ℕ) → l.place ≤ k → bit_at l.others k ≡ 0;
}
