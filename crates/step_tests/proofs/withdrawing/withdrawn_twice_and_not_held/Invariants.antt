use Rattle.std.proofs.Common.{◌≡◌, length}
use Rattle.step_tests.proofs.withdrawing.withdrawn_twice_and_not_held.Given as goal

abbrev pub invariant-loop : goal.invariant-loop
invariant-loop g l = length l.core.tabs ≡ 1
