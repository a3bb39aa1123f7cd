use Rattle.std.proofs.Common.{◌^◌, ◌<◌, All, List, arith, subst}
use Rattle.store_spec.proofs.Common.{All-nil, take_all}
use Rattle.part_play.proofs.Numbers.{one_short}
use Rattle.part_play.proofs.spread.short_numbers.Goals as goal

pub loop-index-init : goal.loop-index-init
loop-index-init g c = All-nil (λ (x : g.row.K-Item.Denot). g.K.Kind.number x < 2 ^ 64)

pub loop-index-preserved : goal.loop-index-preserved
loop-index-preserved g c =
    one_short g.K.Kind.number (g.K.Kind.items c.args.list.now) c.loop-index.index c.number.result
    (omega (arith, c.loop-index-test.true, c.len-index-end.ensures)) (omega (arith, c.number.type_inv)) c.number.ensures c.loop-index.invariant

pub returns : goal.returns
returns g c =
    subst (λ (l : List g.row.K-Item.Denot). All (λ x. g.K.Kind.number x < 2 ^ 64) l) (take_all c.loop-index.index (g.K.Kind.items c.args.list.now) (omega (arith, c.loop-index-test.false, c.len-index-end.ensures))) c.loop-index.invariant
