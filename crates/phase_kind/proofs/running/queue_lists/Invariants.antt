use Rattle.phase_kind.proofs.Queued.{AreQueued}
use Rattle.phase_kind.proofs.running.queue_lists.Given as goal

abbrev pub invariant-loop-place : goal.invariant-loop-place
invariant-loop-place g l = AreQueued g.K.Kind.items l.initial.workers l.work l.place l.workers
