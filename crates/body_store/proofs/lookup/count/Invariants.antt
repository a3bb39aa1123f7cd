use Rattle.std.proofs.Common.{◌≡◌, ◌≤◌, length, take}
use Rattle.store_spec.proofs.Common.{numbers_in}
use Rattle.body_store.proofs.lookup.count.Given as goal

abbrev pub invariant-loop-cell : goal.invariant-loop-cell
invariant-loop-cell l = record {
  count : l.filled ≡ length (numbers_in (take l.cell-index l.cells));
  few : l.filled ≤ l.cell-index;
}
