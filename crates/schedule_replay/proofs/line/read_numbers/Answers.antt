use Rattle.std.proofs.Common.{arith, eqb-true, sym, ◌∙◌}
use Rattle.store_spec.proofs.Common.{eqb-false}
use Rattle.schedule_replay.proofs.Numbers.{read_none, read_more, read_all, read_stops}
use Rattle.schedule_replay.proofs.line.read_numbers.Goals as goal

pub loop-rest-init : goal.loop-rest-init
loop-rest-init c = read_none c.args.bytes.now c.args.numbers.now.items c.requires

pub loop-rest-preserved : goal.loop-rest-preserved
loop-rest-preserved c =
    read_more c.args.bytes.now c.loop-rest.numbers.items c.loop-rest.rest.now c.in-Some.number c.in-Some.after.now c.push.new.self.items c.loop-rest.invariant c.in-Some.ensures c.in_ok-push.ensures.items

pub returns : goal.returns
returns c = read_all c.args.bytes.now c.loop-rest.numbers.items c.loop-rest.rest.now c.loop-rest.invariant (eqb-true _ _ (sym c.is_empty.ensures ∙ c.loop-rest-test.false))

pub returns-in_default : goal.returns-in_default
returns-in_default c =
    let more = eqb-false _ _ (sym c.is_empty.ensures ∙ c.loop-rest-test.true) in
    read_stops c.args.bytes.now c.loop-rest.numbers.items c.loop-rest.rest.now c.loop-rest.invariant c.in_default.ensures (omega (arith, more))
