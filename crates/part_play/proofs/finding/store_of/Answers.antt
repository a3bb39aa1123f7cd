use Rattle.std.proofs.Common.{◌<◌, ◌∙◌, Some, ap, arith, length, slice_get, sym}
use Rattle.store_spec.proofs.Common.{slice_get-get_or}
use Rattle.part_play.proofs.Numbers.{few_parts}
use Rattle.part_play.proofs.finding.store_of.Goals as goal
use Rattle.partition_store.proofs.Shares.{each_in_part}

pub bounds-stores-part : goal.bounds-stores-part
bounds-stores-part c =
    omega (arith, each_in_part c.args.spread.now c.args.number (record { some = c.bits.ensures.some; few = c.bits.ensures.few }) (omega arith), c.place-part.ensures, c.requires)

pub returns : goal.returns
returns c =
    let stores = c.args.stores.now in
    let store = c.index-stores-part.result in
    let within : c.place-part.result < length stores = omega (arith, each_in_part c.args.spread.now c.args.number (record { some = c.bits.ensures.some; few = c.bits.ensures.few }) (omega arith), c.place-part.ensures, c.requires) in
    ap (slice_get stores) (sym c.place-part.ensures) ∙ slice_get-get_or stores c.place-part.result store within ∙ ap (λ s. Some s) (sym c.index-stores-part.is)

pub offset_bounds-stores-part : goal.offset_bounds-stores-part
offset_bounds-stores-part c =
    omega (arith, each_in_part c.args.spread.now c.args.number (record { some = c.bits.ensures.some; few = c.bits.ensures.few }) (omega arith), few_parts c.args.spread.now c.bits.ensures.few, c.place-part.ensures)
