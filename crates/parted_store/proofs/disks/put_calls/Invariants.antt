use Rattle.std.proofs.Common.{◌≡◌, map, take}
use Rattle.std.specs.Prelude.{vec_capacity}
use Rattle.parted_store.proofs.disks.put_calls.Given as goal

-- the counts of the disks so far stand in the row
abbrev pub invariant-disks : goal.invariant-disks
invariant-disks g l = record {
  put : l.row.items ≡ map g.B.Disk.calls (take l.disk-index l.more);
  room : vec_capacity l.row ≡ vec_capacity l.initial.row;
}
