use Rattle.std.proofs.Common.{◌≡◌}
use Rattle.any_store.specs.Disks.StoreDisks.{Alone}
use Rattle.phase_gate.proofs.Kept.{AreSomeMedia}
use Rattle.medium_tests.proofs.sessions.handle.Given as goal
use Rattle.store_spec.proofs.Common.{disk_model}

-- the disk is the medium of some set, of the election under which lines are read
abbrev pub invariant-lines : goal.invariant-lines
invariant-lines g l = record {
  own : l.session.election ≡ l.election;
  media : AreSomeMedia (Alone (disk_model g.D.Disk.seen g.D.Disk.calls g.D.Disk.may_leave g.D.Disk.faults)) l.session.election l.disk;
}
