use Rattle.std.proofs.Common.{◌≡◌, All}
use Rattle.phase_tests.proofs.crowds.crowd.Given as goal

abbrev pub invariant-loop-list : goal.invariant-loop-list
invariant-loop-list g l = All (λ list. list.election ≡ l.election) l.work.items
