use Rattle.std.proofs.Common.{◌≡◌}
use Rattle.step_tests.proofs.withdraw_words.rows_of_removals.Given as goal

abbrev pub invariant-loop-row : goal.invariant-loop-row
invariant-loop-row g l = (l.one.words ≡ l.words) × (l.two.words ≡ l.words)
