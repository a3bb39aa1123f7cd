use Rattle.std.proofs.Common.{◌≡◌, ◌-◌, ◌≤◌, ◌++◌, length, replicate}
use Rattle.body_store.proofs.zeros.lengthen.Given as goal

-- zeros stand behind the bytes so far
abbrev pub invariant-loop-bytes : goal.invariant-loop-bytes
invariant-loop-bytes l = record {
  within : length l.bytes.items ≤ l.end;
  longer : length l.initial.bytes.items ≤ length l.bytes.items;
  zeros : l.bytes.items ≡ l.initial.bytes.items ++ replicate (length l.bytes.items - length l.initial.bytes.items) 0;
}

abbrev pub decreases-loop-bytes : goal.decreases-loop-bytes
decreases-loop-bytes l = l.end - length l.bytes.items
