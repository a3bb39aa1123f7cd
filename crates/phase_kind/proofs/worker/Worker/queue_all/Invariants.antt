use Rattle.std.proofs.Common.{take}
use Rattle.phase_kind.proofs.worker.Worker.queue_all.Given as goal
use Rattle.phase_kind.specs.Worker.{HasQueued}

abbrev pub invariant-loop-place : goal.invariant-loop-place
invariant-loop-place g l = HasQueued l.initial.self (take l.place (g.K.Kind.items l.list)) l.self
