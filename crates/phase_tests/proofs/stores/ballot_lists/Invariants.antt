use Rattle.std.proofs.Common.{◌≡◌, All, length}
use Rattle.phase_tests.proofs.stores.ballot_lists.Given as goal

abbrev pub invariant-loop-list : goal.invariant-loop-list
invariant-loop-list g l = record {
  as_many : length l.work.items ≡ l.list-index;
  elections : All (λ list. list.election ≡ l.election) l.work.items;
}
