use Rattle.std.proofs.Common.{ap, arith, length, ◌∙◌}
use Rattle.phase_kind.proofs.Listed.{all_answered, gone_on, not_begun}
use Rattle.phase_kind.proofs.running.answer_waiting.Goals as goal

pub loop-index-init : goal.loop-index-init
loop-index-init g c = record {
  on = not_begun g.K.Kind.rests c.args.worker.now (c.trays_tell.ensures.at_rest _ _ _ c.waiting-count.ensures.told);
  left = omega arith;
}

pub answer_next-requires-clause-belongs : goal.answer_next-requires-clause-belongs
answer_next-requires-clause-belongs g c κs within = c.loop-index.invariant.on.phase ∙ c.requires.belongs

pub answer_next-requires-clause-waits : goal.answer_next-requires-clause-waits
answer_next-requires-clause-waits g c κs within = omega (arith, c.loop-index.invariant.left, c.loop-index-test.true, c.waiting-count.ensures.waiting)

pub loop-index-preserved : goal.loop-index-preserved
loop-index-preserved g c =
    let put = c.answer_next.ensures in
    let before = c.loop-index.invariant in
    record {
      on = gone_on g.K.Kind.rests c.args.worker.now c.loop-index.worker c.answer_next.new.worker put.answers.0 put.answers.1 before.on put.phase put.at_rest put.room put.answers.2 put.answers.3;
      left = omega (arith, before.left, ap length put.answers.2);
    }

pub returns : goal.returns
returns g c = all_answered g.K.Kind.rests c.args.worker.now c.loop-index.worker c.loop-index.invariant.on (omega (arith, c.loop-index.invariant.left, c.loop-index-test.false, c.waiting-count.ensures.waiting))
