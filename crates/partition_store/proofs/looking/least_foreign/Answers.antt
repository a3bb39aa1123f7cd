use Rattle.std.proofs.Common.{sym, subst, take}
use Rattle.store_spec.proofs.Common.{take_all, take_more}
use Rattle.partition_store.proofs.looking.least_foreign.Goals as goal
use Rattle.partition_store.specs.Foreign.{IsAmong, IsLeastForeign}

pub loop-number-preserved : goal.loop-number-preserved
loop-number-preserved c =
    let i = c.loop-number.number-index in
    let cells = c.args.cells.now in
    subst (λ cells. IsLeastForeign c.args.bits c.args.part (IsAmong cells) c.least_with_cell-least.result) (sym (take_more cells i 0 c.loop-number-test.true))
    (c.least_with_cell-least.ensures (take i cells) c.loop-number.invariant)

pub returns : goal.returns
returns c = subst (λ cells. IsLeastForeign c.args.bits c.args.part (IsAmong cells) c.loop-number.least) (take_all c.loop-number.number-index c.args.cells.now c.loop-number-test.false) c.loop-number.invariant
