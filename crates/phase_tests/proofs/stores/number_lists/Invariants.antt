use Rattle.std.proofs.Common.{◌≡◌, length}
use Rattle.phase_tests.proofs.stores.number_lists.Given as goal

abbrev pub invariant-loop-list : goal.invariant-loop-list
invariant-loop-list l = length l.work.items ≡ l.list-index
