use Rattle.std.proofs.Common.{◌≡◌}
use Rattle.step_tests.proofs.withdraw_words.withdraw_by_steps.Given as goal

abbrev pub invariant-loop : goal.invariant-loop
invariant-loop g l = l.seat.words ≡ l.words
