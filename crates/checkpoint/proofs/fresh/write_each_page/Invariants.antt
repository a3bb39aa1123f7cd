use Rattle.std.proofs.Common.{◌≡◌, ◌-◌, ◌≤◌, take}
use Rattle.store_spec.proofs.Common.{IsUnused, LeavesOnly, option_map, overwritten}
use Rattle.bank_medium.specs.Banks.{place_of}
use Rattle.checkpoint.proofs.fresh.write_each_page.Given as goal

abbrev pub invariant-loop-at : goal.invariant-loop-at
invariant-loop-at g l = record {
  few : l.at ≤ l.end;
  written : g.D.Disk.seen l.disk ≡ option_map (overwritten (place_of l.election l.bank) (take l.at l.made)) (g.D.Disk.seen l.fn.disk);
  unused : LeavesOnly g.D.Disk.calls g.D.Disk.may_leave l.fn.disk l.disk (IsUnused l.election);
  no_fault : g.D.Disk.faults l.disk ≡ g.D.Disk.faults l.fn.disk;
  leads : g.D.Disk.leads_to l.fn.disk l.disk;
}

abbrev pub decreases-loop-at : goal.decreases-loop-at
decreases-loop-at g l = l.end - l.at
