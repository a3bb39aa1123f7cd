use Rattle.std.proofs.Common.{◌≡◌, ◌-◌, ◌≤◌, take, length}
use Rattle.bank_medium.specs.Banks.{bank_named}
use Rattle.image_builder.specs.Cells.{AreJudged}
use Rattle.recovery.proofs.Paging.{IsFedFrom}
use Rattle.recovery.proofs.reading.read_pages.Given as goal
use Rattle.recovery.specs.ReadsOnly.{WritesNothing}

-- the pages so far were read, and judged
abbrev pub invariant-loop-at : goal.invariant-loop-at
invariant-loop-at g l = record {
  few : l.at ≤ l.end;
  long : length l.made ≡ l.end;
  judged : AreJudged l.election l.cells (take l.at l.made);
  fed : IsFedFrom l.election (bank_named l.bank) (g.D.Disk.seen l.fn.disk) l.at
      (record { election = l.election; fed = take l.at l.made });
  reads : WritesNothing g.D.Disk.seen g.D.Disk.calls g.D.Disk.may_leave l.fn.disk l.disk;
  no_fault : g.D.Disk.faults l.disk ≡ g.D.Disk.faults l.fn.disk;
  leads : g.D.Disk.leads_to l.fn.disk l.disk;
}

abbrev pub decreases-loop-at : goal.decreases-loop-at
decreases-loop-at g l = l.end - l.at
