use Rattle.std.proofs.Common.{length}
use Rattle.image_builder.proofs.cells.reach_of.Given as goal
use Rattle.image_builder.specs.Reaches.{IsReach}

abbrev pub invariant-loop-from : goal.invariant-loop-from
invariant-loop-from l = IsReach l.cells l.number (length l.cells) l.from

abbrev pub decreases-loop-from : goal.decreases-loop-from
decreases-loop-from l = l.from
