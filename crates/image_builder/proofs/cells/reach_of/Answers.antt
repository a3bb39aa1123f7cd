use Rattle.std.proofs.Common.{arith}
use Rattle.image_builder.proofs.Reaches.{goes_back}
use Rattle.image_builder.proofs.cells.reach_of.Goals as goal

pub overflow_sub-from-in-loop-from : goal.overflow_sub-from-in-loop-from
overflow_sub-from-in-loop-from c =
    let back = goes_back c.args.cells.now c.args.reaches.now c.args.number c.loop-from.from c.requires.reaches c.loop-from.invariant (omega arith) c.if-cells-from.false in
    omega (arith, back.known)

pub overflow_sub-from-in-loop-from-3 : goal.overflow_sub-from-in-loop-from-3
overflow_sub-from-in-loop-from-3 c =
    let back = goes_back c.args.cells.now c.args.reaches.now c.args.number c.loop-from.from c.requires.reaches c.loop-from.invariant (omega arith) c.if-cells-from.false in
    omega (arith, back.known)

pub bounds-reaches-reaches : goal.bounds-reaches-reaches
bounds-reaches-reaches c =
    let back = goes_back c.args.cells.now c.args.reaches.now c.args.number c.loop-from.from c.requires.reaches c.loop-from.invariant (omega arith) c.if-cells-from.false in
    omega (arith, back.known)

pub loop-from-smaller : goal.loop-from-smaller
loop-from-smaller c =
    let back = goes_back c.args.cells.now c.args.reaches.now c.args.number c.loop-from.from c.requires.reaches c.loop-from.invariant (omega arith) c.if-cells-from.false in
    back.less

pub loop-from-preserved : goal.loop-from-preserved
loop-from-preserved c =
    let back = goes_back c.args.cells.now c.args.reaches.now c.args.number c.loop-from.from c.requires.reaches c.loop-from.invariant (omega arith) c.if-cells-from.false in
    back.reach
