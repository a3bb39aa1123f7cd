use Rattle.std.proofs.Common.{arith}
use Rattle.layout_def.proofs.Changing.{all_exchanged, none_exchanged, one_exchanged}
use Rattle.layout_def.proofs.changes.exchange.Goals as goal

pub loop-at-init : goal.loop-at-init
loop-at-init c after are = none_exchanged c.args.cells.now after c.args.changes.now

pub loop-at-preserved : goal.loop-at-preserved
loop-at-preserved c after are =
    let so_far = c.loop-at.invariant after are in
    one_exchanged c.args.cells.now after c.args.changes.now c.loop-at.at c.loop-at.cells c.loop-at.changes are (omega (arith, c.loop-at-test.true, so_far.as_many)) so_far
    (record { cell = 0; number = 0 })

pub returns : goal.returns
returns c after are =
    let so_far = c.loop-at.invariant after are in
    all_exchanged c.args.cells.now after c.args.changes.now c.loop-at.at c.loop-at.cells c.loop-at.changes are (omega (arith, c.loop-at-test.false, so_far.as_many)) so_far
