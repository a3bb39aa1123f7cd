use Rattle.std.proofs.Common.{◌≢◌}
use Rattle.store_spec.proofs.Common.{All}
use Rattle.step_tests.proofs.casting.drawn_list.Given as goal

abbrev pub invariant-loop-place : goal.invariant-loop-place
invariant-loop-place l = All (λ x. x ≢ 0) l.list.items
