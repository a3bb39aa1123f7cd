use Rattle.std.proofs.Common.{◌≡◌, ◌++◌, ◌+◌, ◌<◌, List, [], EachIndex, get_or, length, take, drop}
use Rattle.store_spec.proofs.Common.{AllZip, Ballot, disk_model, last_count}
use Rattle.partition_store.proofs.recovering.recover_further.Given as goal
use Rattle.partition_store.specs.Opening.{Recovers}
use Rattle.partition_store.specs.Parted.{BelongsTo}
use Rattle.partition_store.specs.PartedKept.{AreStores, sets_of}
use Rattle.partition_store.specs.Recovering.{AreRecoveredAs, KeepsSteady}

-- the media before this one were recovered, and those from it on are as they were
abbrev pub invariant-loop-place : goal.invariant-loop-place
invariant-loop-place g l = record {
  recovered : (sets : List (List Ballot))
      × AreRecoveredAs (disk_model g.B.Disk.seen g.B.Disk.calls g.B.Disk.may_leave g.B.Disk.faults) l.election (take l.place l.initial.more) (take l.place l.more) sets
      × (sets_of l.parts.items ≡ sets_of l.initial.parts.items ++ sets);
  many : length l.parts.items ≡ l.place + 1;
  own : EachIndex l.parts.items (λ part. BelongsTo l.bits part (get_or (sets_of l.parts.items) part []));
  stores : AreStores l.election l.parts.items;
  keeps : AllZip (KeepsSteady (disk_model g.B.Disk.seen g.B.Disk.calls g.B.Disk.may_leave g.B.Disk.faults) l.election) l.initial.more l.more;
  run : AllZip (Recovers (disk_model g.B.Disk.seen g.B.Disk.calls g.B.Disk.may_leave g.B.Disk.faults) l.election) l.initial.more l.more;
  called : AllZip (λ old new. g.B.Disk.calls new < last_count → g.B.Disk.calls old < g.B.Disk.calls new) (take l.place l.initial.more) (take l.place l.more);
  leads : AllZip g.B.Disk.leads_to l.initial.more l.more;
  rest : drop l.place l.more ≡ drop l.place l.initial.more;
}
