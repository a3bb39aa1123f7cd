use Rattle.std.proofs.Common.{◌≡◌}
use Rattle.part_tests.proofs.crowd.crowd.Given as goal

abbrev pub invariant-loop-number : goal.invariant-loop-number
invariant-loop-number g l = l.ballots.election ≡ l.election
