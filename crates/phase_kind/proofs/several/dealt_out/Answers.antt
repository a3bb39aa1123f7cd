use Rattle.std.proofs.Common.{◌<◌, arith, get_or, length, zip}
use Rattle.store_spec.proofs.Common.{slice_get-get_or}
use Rattle.phase_kind.proofs.Counts.{something_there}
use Rattle.phase_kind.proofs.Planned.{holds_at, zipped_there}
use Rattle.phase_kind.proofs.Shared.{each_set, one_filled, room_there}
use Rattle.phase_kind.proofs.several.dealt_out.Goals as goal

pub push_from-requires-clause-of_one : goal.push_from-requires-clause-of_one
push_from-requires-clause-of_one g c =
    let k = g.K.Kind in
    let index = c.loop-index.index in
    let lists = c.loop-index.lists in
    let to = get_or c.args.order.now index 0 in
    let within = c.requires.within index 0 (omega (arith, c.loop-index-test.true, c.loop-index.auto.index-end)) in
    let was = get_or lists to c.index-lists-order.result in
    let there = slice_get-get_or lists to c.index-lists-order.result (omega (arith, within, c.loop-index.invariant.filled.as_many)) in
    let store = something_there c.args.stores.now to within in (
      store.0,
      (
        holds_at (λ at. k.is_of at.0 at.1) (zip c.args.stores.now lists) to (store.0, was) c.loop-index.invariant.of_each (zipped_there c.args.stores.now lists to store.0 was store.1 there),
        holds_at (λ store. k.is_of store c.args.list.now) c.args.stores.now to store.0 c.requires.is_of store.1,
      ),
    )

pub push_from-requires-clause-room : goal.push_from-requires-clause-room
push_from-requires-clause-room g c =
    let k = g.K.Kind in
    let index = c.loop-index.index in
    let lists = c.loop-index.lists in
    let order = c.args.order.now in
    let to = get_or order index 0 in
    let below : index < length order = omega (arith, c.loop-index-test.true, c.loop-index.auto.index-end) in
    let was = get_or lists to c.index-lists-order.result in
    let there = slice_get-get_or lists to c.index-lists-order.result (omega (arith, c.requires.within index 0 below, c.loop-index.invariant.filled.as_many)) in
    room_there k.items k.room (length c.args.stores.now) order (k.items c.args.list.now) index to lists was c.loop-index.invariant.filled c.requires.as_many (slice_get-get_or order index 0 below) there

pub loop-index-preserved : goal.loop-index-preserved
loop-index-preserved g c =
    let k = g.K.Kind in
    let index = c.loop-index.index in
    let lists = c.loop-index.lists in
    let order = c.args.order.now in
    let to = get_or order index 0 in
    let below : index < length order = omega (arith, c.loop-index-test.true, c.loop-index.auto.index-end) in
    let was = get_or lists to c.index-lists-order.result in
    let now = c.push_from.new.list in
    let pushed = c.push_from.ensures.pushed in
    let there = slice_get-get_or lists to c.index-lists-order.result (omega (arith, c.requires.within index 0 below, c.loop-index.invariant.filled.as_many)) in
    record {
      of_each = each_set (λ at. k.is_of at.0 at.1) c.args.stores.now lists to was now c.loop-index.invariant.of_each (λ store was_of. c.push_from.ensures.is_of store was_of) there;
      filled = one_filled k.items k.room (length c.args.stores.now) order (k.items c.args.list.now) index to lists was c.loop-index.invariant.filled c.requires.as_many (slice_get-get_or order index 0 below) there pushed.0 now pushed.1 pushed.2 c.push_from.ensures.room;
    }
