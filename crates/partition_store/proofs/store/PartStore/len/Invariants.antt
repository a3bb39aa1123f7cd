use Rattle.std.proofs.Common.{◌≡◌, ◌*◌, ◌≤◌, length, take}
use Rattle.store_spec.proofs.Common.{most_ballots}
use Rattle.partition_store.proofs.store.PartStore.len.Given as goal
use Rattle.partition_store.specs.Parted.{joined}
use Rattle.partition_store.specs.PartedKept.{sets_of}

-- the parts so far were counted
abbrev pub invariant-loop-part : goal.invariant-loop-part
invariant-loop-part l = record {
  count : l.count ≡ length (joined (sets_of (take l.part-index l.part-items)));
  few : l.count ≤ l.part-index * most_ballots;
}
