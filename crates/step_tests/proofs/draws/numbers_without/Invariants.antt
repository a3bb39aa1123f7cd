-- The numbers so far rise, and none reaches the next.
use Rattle.std.proofs.Common.{◌≢◌, ◌+◌, ◌*◌, ◌<◌, ◌≤◌, length}
use Rattle.store_spec.proofs.Common.{All, AllPairs}
use Rattle.step_tests.proofs.draws.numbers_without.Given as goal

abbrev pub invariant-loop-k : goal.invariant-loop-k
invariant-loop-k l = record {
  few : length l.numbers.items ≤ l.k;
  some : All (λ x. x ≢ 0) l.numbers.items;
  rising : AllPairs (λ a b. a < b) l.numbers.items;
  below : All (λ x. x < 7 + l.k * 20015998343868) l.numbers.items;
}
