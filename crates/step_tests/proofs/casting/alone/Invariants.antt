use Rattle.std.proofs.Common.{◌≡◌, length}
use Rattle.step_tests.proofs.casting.alone.Given as goal

abbrev pub invariant-loop : goal.invariant-loop
invariant-loop g l = length l.core.tabs ≡ 1
