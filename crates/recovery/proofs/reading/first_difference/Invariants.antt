use Rattle.std.proofs.Common.{◌≡◌, ◌-◌, ◌≤◌, take}
use Rattle.store_spec.proofs.Common.{IfSome}
use Rattle.bank_medium.specs.Banks.{bytes_of}
use Rattle.recovery.proofs.reading.first_difference.Given as goal
use Rattle.recovery.specs.ReadsOnly.{WritesNothing}

-- the pages so far agree
abbrev pub invariant-loop-at : goal.invariant-loop-at
invariant-loop-at g l = record {
  few : l.at ≤ l.end;
  same : IfSome (g.D.Disk.seen l.fn.disk) (λ bytes. take l.at (bytes_of l.election l.bank bytes) ≡ take l.at l.made);
  reads : WritesNothing g.D.Disk.seen g.D.Disk.calls g.D.Disk.may_leave l.fn.disk l.disk;
  no_fault : g.D.Disk.faults l.disk ≡ g.D.Disk.faults l.fn.disk;
  leads : g.D.Disk.leads_to l.fn.disk l.disk;
}

abbrev pub decreases-loop-at : goal.decreases-loop-at
decreases-loop-at g l = l.end - l.at
