use Rattle.std.proofs.Common.{◌≡◌, ◌+◌, ◌*◌, ◌≤◌, List, [], ◌∷◌, length, take, drop}
use Rattle.store_spec.proofs.Common.{AllZip, Ballot, disk_model, most_ballots}
use Rattle.merge_media.proofs.merging.join_each.Given as goal
use Rattle.merge_media.specs.Union.{Joins}
use Rattle.recovery.specs.Media.{EachHolds, NoneRose}
use Rattle.recovery.specs.ReadsOnly.{WritesNothing}

-- the media before this one were joined, and those from it on are as they were
abbrev pub invariant-loop-place : goal.invariant-loop-place
invariant-loop-place g l = record {
  joined : (sets : List (List Ballot))
      × EachHolds (disk_model g.B.Disk.seen g.B.Disk.calls g.B.Disk.may_leave g.B.Disk.faults) l.election (take l.place l.initial.more) sets
      × ((set : List Ballot) → Joins (set ∷ []) l.initial.union → Joins (set ∷ sets) l.union);
  election : l.union.election ≡ l.initial.union.election;
  few : length l.union.ballots ≤ (l.place + 1) * most_ballots;
  steady : NoneRose (disk_model g.B.Disk.seen g.B.Disk.calls g.B.Disk.may_leave g.B.Disk.faults) l.initial.more l.more;
  reads : AllZip (WritesNothing g.B.Disk.seen g.B.Disk.calls g.B.Disk.may_leave) l.initial.more l.more;
  leads : AllZip g.B.Disk.leads_to l.initial.more l.more;
  rest : drop l.place l.more ≡ drop l.place l.initial.more;
}
