use Rattle.std.proofs.Common.{All, take}
use Rattle.phase_kind.proofs.team.all_rest.Given as goal

-- the workers so far
abbrev pub invariant-loop-worker : goal.invariant-loop-worker
invariant-loop-worker g l = All (λ worker. g.K.Kind.rests worker.seat) (take l.worker-index l.team)
