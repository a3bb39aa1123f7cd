use Rattle.std.proofs.Common.{◌<◌, ◌∙◌, ap, arith, get_or, length, sym}
use Rattle.phase_kind.proofs.Counts.{something_there}
use Rattle.phase_kind.proofs.Queued.{are_of, queued_and_answered}
use Rattle.phase_kind.proofs.running.run.Goals as goal
use Rattle.phase_kind.specs.Worker.{HasAnswered, HasFinished}
use Rattle.word_rule.proofs.AtPlaces.{at_all_places, at_one_place}

pub queue_lists-requires-clause-is_of : goal.queue_lists-requires-clause-is_of
queue_lists-requires-clause-is_of g c κs within =
    are_of g.K.Kind.items c.args.workers.now c.args.work.now g.K.Kind.is_of (λ worker. worker.phase.base) c.args.phase.now.base c.requires.as_many (λ k d here. ap (λ phase. phase.base) (c.requires.belong k d here)) c.requires.is_of

pub run_waiting-requires-clause-belong : goal.run_waiting-requires-clause-belong
run_waiting-requires-clause-belong g c κs within k d here =
    let before : k < length c.args.workers.now = omega (arith, here, c.queue_lists.ensures.as_many) in
    let list = something_there c.args.work.now k (omega (arith, before, c.requires.as_many)) in
    (c.queue_lists.ensures.queued k d list.0 before).phase ∙ c.requires.belong k d before

pub returns-clause-answered : goal.returns-clause-answered
returns-clause-answered g c =
    let rests = g.K.Kind.rests in
    let before = c.args.workers.now in
    let queued = c.queue_lists.new.workers in
    let after = c.run_waiting.new.workers in
    at_all_places (λ old list now. HasAnswered rests old (g.K.Kind.items list) now) before after c.args.work.now c.requires.as_many (c.run_waiting.ensures.as_many ∙ c.queue_lists.ensures.as_many)
    (λ k worker list within.
    queued_and_answered rests (get_or before k worker) (get_or queued k worker) (get_or after k worker) (g.K.Kind.items (get_or c.args.work.now k list)) (c.requires.idle k worker within) (c.queue_lists.ensures.queued k worker list within)
    (at_one_place (λ at. HasFinished rests at.0 at.1) queued after k (worker, worker) (sym c.run_waiting.ensures.as_many) c.run_waiting.ensures.finished (omega (arith, within, c.queue_lists.ensures.as_many))))
