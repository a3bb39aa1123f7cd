use Rattle.std.proofs.Common.{◌≡◌, length}
use Rattle.step_tests.proofs.withdrawing.steps.Given as goal

abbrev pub invariant-loop : goal.invariant-loop
invariant-loop g l = length l.core.tabs ≡ length l.fn.core.tabs
