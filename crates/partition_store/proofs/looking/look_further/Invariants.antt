use Rattle.std.proofs.Common.{◌≡◌, ◌≤◌, List, [], ◌∷◌, take, drop}
use Rattle.store_spec.proofs.Common.{AllZip, Ballot, disk_model}
use Rattle.partition_store.proofs.looking.look_further.Given as goal
use Rattle.partition_store.specs.Foreign.{IsFirstForeign}
use Rattle.recovery.specs.Media.{EachHolds, NoneRose}
use Rattle.recovery.specs.ReadsOnly.{WritesNothing}

-- the media before this one were looked at, and those from it on are as they were
abbrev pub invariant-loop-place : goal.invariant-loop-place
invariant-loop-place g l = record {
  found : (sets : List (List Ballot))
      × EachHolds (disk_model g.B.Disk.seen g.B.Disk.calls g.B.Disk.may_leave g.B.Disk.faults) l.election (take l.place l.initial.more) sets
      × ((set : List Ballot) → IsFirstForeign l.bits (set ∷ []) l.fn.first → IsFirstForeign l.bits (set ∷ sets) l.foreign);
  steady : NoneRose (disk_model g.B.Disk.seen g.B.Disk.calls g.B.Disk.may_leave g.B.Disk.faults) l.initial.more l.more;
  reads : AllZip (WritesNothing g.B.Disk.seen g.B.Disk.calls g.B.Disk.may_leave) l.initial.more l.more;
  later : AllZip (λ old new. g.B.Disk.calls old ≤ g.B.Disk.calls new) l.initial.more l.more;
  leads : AllZip g.B.Disk.leads_to l.initial.more l.more;
  rest : drop l.place l.more ≡ drop l.place l.initial.more;
}
