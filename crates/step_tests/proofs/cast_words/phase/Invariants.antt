use Rattle.std.proofs.Common.{◌≡◌}
use Rattle.step_tests.proofs.cast_words.phase.Given as goal

abbrev pub invariant-loop : goal.invariant-loop
invariant-loop g l = (l.seat.words ≡ l.words) × (l.other.words ≡ l.others)

abbrev pub invariant-loop-place : goal.invariant-loop-place
invariant-loop-place g l = (l.seat.words ≡ l.words) × (l.other.words ≡ l.others)
