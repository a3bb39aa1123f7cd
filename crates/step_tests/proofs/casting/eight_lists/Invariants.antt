use Rattle.std.proofs.Common.{◌≡◌, ◌≢◌, length}
use Rattle.store_spec.proofs.Common.{All}
use Rattle.step_tests.proofs.casting.eight_lists.Given as goal

abbrev pub invariant-loop-share : goal.invariant-loop-share
invariant-loop-share l = record {
  counted : length l.lists.items ≡ l.share;
  listed : All (λ list. All (λ x. x ≢ 0) list.items) l.lists.items;
}
