use Rattle.std.proofs.Common.{◌≡◌, length, map, take}
use Rattle.phase_tests.proofs.phases.lengths.Given as goal

abbrev pub invariant-loop-list : goal.invariant-loop-list
invariant-loop-list g l = l.plan.items ≡ map (λ list. length (g.K.Kind.items list)) (take l.list-index l.work)
