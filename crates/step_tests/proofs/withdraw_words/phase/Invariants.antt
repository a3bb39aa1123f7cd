use Rattle.std.proofs.Common.{◌≡◌}
use Rattle.step_tests.proofs.withdraw_words.phase.Given as goal

abbrev pub invariant-loop-turn : goal.invariant-loop-turn
invariant-loop-turn g l = (l.seat.words ≡ l.words) × (l.other.words ≡ l.others)
