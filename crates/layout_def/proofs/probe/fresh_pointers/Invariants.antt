use Rattle.std.proofs.Common.{◌≡◌, EachIndex, length, slice_index}
use Rattle.layout_def.proofs.probe.fresh_pointers.Given as goal

abbrev pub invariant-loop-cell : goal.invariant-loop-cell
invariant-loop-cell l = record {
  one_each : length l.pointers.items ≡ l.cell;
  to_itself : EachIndex l.pointers.items (λ cell. slice_index l.pointers.items cell ≡ cell);
}
