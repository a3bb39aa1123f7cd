use Rattle.std.proofs.Common.{◌≤◌, ◌-◌, length}
use Rattle.layout_def.specs.Pointers.{AreSound, LeavesOneEmpty}
use Rattle.store_spec.specs.Probe.{IsFilled}
use Rattle.layout_def.proofs.probe.first_empty.Given as goal

abbrev pub invariant-loop-at : goal.invariant-loop-at
invariant-loop-at l = record {
  sound : AreSound l.cells l.onward;
  after : l.fn.from ≤ l.at;
  full : IsFilled l.cells l.fn.from l.at;
  one_left : LeavesOneEmpty l.cells l.at;
}

abbrev pub decreases-loop-at : goal.decreases-loop-at
decreases-loop-at l = length l.cells - l.at
