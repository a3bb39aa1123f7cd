use Rattle.std.proofs.Common.{◌≡◌}
use Rattle.part_tests.proofs.phases.cast.Given as goal

abbrev pub invariant-loop-number : goal.invariant-loop-number
invariant-loop-number l = l.list.election ≡ l.election
