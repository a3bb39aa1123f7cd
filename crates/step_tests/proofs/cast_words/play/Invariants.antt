use Rattle.std.proofs.Common.{◌≡◌}
use Rattle.step_tests.proofs.cast_words.play.Given as goal

abbrev pub invariant-loop-row : goal.invariant-loop-row
invariant-loop-row g l = (l.one.words ≡ l.words) × (l.two.words ≡ l.words)
