use Rattle.std.proofs.Common.{◌≡◌}
use Rattle.phase_tests.proofs.stores.ballots.Given as goal

abbrev pub invariant-loop-number : goal.invariant-loop-number
invariant-loop-number g l = l.ballots.election ≡ l.election
