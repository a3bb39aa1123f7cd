use Rattle.std.proofs.Common.{◌≡◌, ◌-◌, ◌≤◌, List, ℕ, Some, take}
use Rattle.store_spec.proofs.Common.{IsTorn, LeavesOnly, bank_size, option_map, overwritten}
use Rattle.bank_medium.specs.Banks.{place_of}
use Rattle.checkpoint.proofs.renewal.write_pages.Given as goal

abbrev pub invariant-loop-at : goal.invariant-loop-at
invariant-loop-at g l = record {
  few : l.at ≤ l.end;
  written : g.D.Disk.seen l.disk ≡ option_map (overwritten (place_of l.election l.bank) (take l.at l.made)) (g.D.Disk.seen l.fn.disk);
  torn : (old : List ℕ) → g.D.Disk.seen l.fn.disk ≡ Some old → LeavesOnly g.D.Disk.calls g.D.Disk.may_leave l.fn.disk l.disk (IsTorn (place_of l.election l.bank) (bank_size l.election) old);
  later : g.D.Disk.calls l.fn.disk ≤ g.D.Disk.calls l.disk;
  no_fault : g.D.Disk.faults l.disk ≡ g.D.Disk.faults l.fn.disk;
  leads : g.D.Disk.leads_to l.fn.disk l.disk;
}

abbrev pub decreases-loop-at : goal.decreases-loop-at
decreases-loop-at g l = l.end - l.at
