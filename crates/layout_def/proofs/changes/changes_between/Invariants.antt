use Rattle.std.proofs.Common.{◌-◌, ◌≤◌, length}
use Rattle.layout_def.specs.Changes.{AreChangesUpTo}
use Rattle.layout_def.proofs.changes.changes_between.Given as goal

-- the changes so far are noted
abbrev pub invariant-loop-at : goal.invariant-loop-at
invariant-loop-at l = record {
  within : l.at ≤ length l.old;
  noted : AreChangesUpTo l.old l.new l.at l.changes.items;
}

abbrev pub decreases-loop-at : goal.decreases-loop-at
decreases-loop-at l = length l.old - l.at
