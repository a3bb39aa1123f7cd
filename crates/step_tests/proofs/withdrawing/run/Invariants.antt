use Rattle.std.proofs.Common.{◌≡◌, length}
use Rattle.step_tests.proofs.withdrawing.run.Given as goal

abbrev pub invariant-loop : goal.invariant-loop
invariant-loop l = length l.core.tabs ≡ 8
