use Rattle.std.proofs.Common.{◌≡◌}
use Rattle.step_tests.proofs.cast_words.cast_by_steps.Given as goal

abbrev pub invariant-loop-more : goal.invariant-loop-more
invariant-loop-more g l = l.seat.words ≡ l.words
