use Rattle.std.proofs.Common.{◌≤◌, arith, length}
use Rattle.phase_kind.proofs.Queued.{holds_still, no_list, one_list}
use Rattle.phase_kind.proofs.running.queue_lists.Goals as goal

pub loop-place-init : goal.loop-place-init
loop-place-init g c = no_list g.K.Kind.items c.args.workers.now c.args.work.now

pub queue_all-requires-clause-room : goal.queue_all-requires-clause-room
queue_all-requires-clause-room g c κs within =
    holds_still g.K.Kind.items c.args.workers.now c.args.work.now (λ at. length (g.K.Kind.items at.1) ≤ at.0.room) c.loop-place.place c.loop-place.workers c.index-workers-place.result c.index-work-place.result c.loop-place.invariant c.requires.as_many c.requires.room (omega (arith, c.loop-place-test.true, c.requires.as_many)) c.index-work-place.is

pub queue_all-requires-clause-is_of : goal.queue_all-requires-clause-is_of
queue_all-requires-clause-is_of g c κs within =
    holds_still g.K.Kind.items c.args.workers.now c.args.work.now (λ at. g.K.Kind.is_of at.0.phase.base at.1) c.loop-place.place c.loop-place.workers c.index-workers-place.result c.index-work-place.result c.loop-place.invariant c.requires.as_many c.requires.is_of (omega (arith, c.loop-place-test.true, c.requires.as_many)) c.index-work-place.is

pub loop-place-preserved : goal.loop-place-preserved
loop-place-preserved g c =
    one_list g.K.Kind.items c.args.workers.now c.args.work.now c.loop-place.place c.loop-place.workers c.index-workers-place.result c.queue_all.new.self c.index-work-place.result c.loop-place.invariant (omega (arith, c.loop-place-test.true, c.requires.as_many)) c.loop-place-test.true c.index-work-place.is c.queue_all.ensures

pub returns-clause-queued : goal.returns-clause-queued
returns-clause-queued g c place d list within = c.loop-place.invariant.done place d list (omega (arith, within, c.requires.as_many, c.loop-place-test.false)) within
