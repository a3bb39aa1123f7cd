use Rattle.std.proofs.Common.{arith, subst, sym}
use Rattle.store_spec.proofs.Common.{length-take-le, take_all}
use Rattle.phase_kind.proofs.Queued.{none_queued, one_queued}
use Rattle.phase_kind.proofs.worker.Worker.queue_all.Goals as goal
use Rattle.phase_kind.specs.Phase.{OpenPhase}
use Rattle.phase_kind.specs.Worker.{HasQueued}

pub loop-place-init : goal.loop-place-init
loop-place-init g c = none_queued c.args.self.now

pub queue-requires-clause-room : goal.queue-requires-clause-room
queue-requires-clause-room g c κs within =
    let list = g.K.Kind.items c.args.list.now in
    omega (arith, c.loop-place.invariant.room, c.requires.room, length-take-le c.loop-place.place list (omega arith))

pub queue-requires-clause-is_of : goal.queue-requires-clause-is_of
queue-requires-clause-is_of g c κs within = subst (λ (phase : OpenPhase). g.K.Kind.is_of phase.base c.args.list.now) (sym c.loop-place.invariant.phase) c.requires.is_of

pub loop-place-preserved : goal.loop-place-preserved
loop-place-preserved g c =
    let put = c.queue.ensures in
    one_queued c.args.self.now c.loop-place.self c.queue.new.self (g.K.Kind.items c.args.list.now) c.loop-place.place put.waits.0 c.loop-place.invariant put.phase put.seat put.room put.tray put.waits.1 put.waits.2

pub returns : goal.returns
returns g c =
    let list = g.K.Kind.items c.args.list.now in
    subst (λ l. HasQueued c.args.self.now l c.loop-place.self) (take_all c.loop-place.place list (omega arith)) c.loop-place.invariant
