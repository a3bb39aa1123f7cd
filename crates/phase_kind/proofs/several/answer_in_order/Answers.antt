use Rattle.std.proofs.Common.{ap, arith, length}
use Rattle.store_spec.proofs.Common.{length-drop}
use Rattle.phase_kind.proofs.Teams.{all_handled, none_handled, one_handled, team_stays}
use Rattle.phase_kind.proofs.several.answer_in_order.Goals as goal

pub loop-init : goal.loop-init
loop-init g c = record {
  team = c.requires;
  first = none_handled g.K.Kind.rests c.args.team.now c.rests.ensures;
}

pub answer_next-requires-clause-ahead : goal.answer_next-requires-clause-ahead
answer_next-requires-clause-ahead g c κs within =
    omega (arith, ap length c.loop.invariant.first.ahead, length-drop c.loop.counter c.args.team.now.ahead, c.ahead-end.ensures.ahead, c.loop-test.true, c.loop.auto.counter-end)

pub loop-preserved : goal.loop-preserved
loop-preserved g c = record {
  team = team_stays g.K.Kind.rests c.args.phases.now c.loop.team c.answer_next.new.self c.loop.invariant.team c.answer_next.ensures;
  first = one_handled g.K.Kind.rests c.args.team.now c.loop.team c.answer_next.new.self c.loop.counter c.loop.invariant.first c.answer_next.ensures;
}

pub returns-clause-team : goal.returns-clause-team
returns-clause-team g c = c.loop.invariant.team

pub returns-clause-handled : goal.returns-clause-handled
returns-clause-handled g c = all_handled g.K.Kind.rests c.args.team.now c.loop.team c.loop.counter c.loop.invariant.first c.ahead-end.ensures.named (omega (arith, c.ahead-end.ensures.ahead, c.loop-test.false, c.loop.auto.counter-end))
