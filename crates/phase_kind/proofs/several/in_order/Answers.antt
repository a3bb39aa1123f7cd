use Rattle.std.proofs.Common.{◌+◌, ◌<◌, ◌∙◌, Global, Vec, ap, arith, get_or, length, map, refl, subst, sym}
use Rattle.store_spec.proofs.Common.{get_or_default, slice_get-get_or}
use Rattle.phase_kind.proofs.Counts.{AreMerged, all_merged, count_there, fewer_there, none_counted, none_merged, one_counted, one_merged, short, shown_there}
use Rattle.phase_kind.proofs.several.in_order.Goals as goal

pub loop-index-init : goal.loop-index-init
loop-index-init g c =
    let rows = map (λ (row : Vec g.row.X.Denot Global). row.items) c.args.replies.now in
    let order = c.args.order.now in
    record {
      next = none_counted (λ p. p) (length c.args.replies.now) c.in_ok-next.next.items (c.in_ok-next.ensures.items_if_clones_equal (λ y is. is));
      told = subst (AreMerged (λ p. p) order rows 0) (sym c.in_ok-told.ensures.items) (none_merged (λ p. p) order rows);
    }

pub index-requires-in-loop-index : goal.index-requires-in-loop-index
index-requires-in-loop-index g c =
    let order = c.args.order.now in
    let index = c.loop-index.index in
    let to = get_or order index 0 in
    let below : index < length order = omega (arith, c.loop-index-test.true, c.loop-index.auto.index-end) in
    let within = c.requires.within index 0 below in
    let there = slice_get-get_or order index 0 below in
    let row = c.index-replies-to.result in
    let count = count_there (λ p. p) (length c.args.replies.now) order index to c.loop-index.next.items c.index.result.now c.loop-index.invariant.next within c.index.ensures in
    let row_at = shown_there (λ (row : Vec g.row.X.Denot Global). row.items) c.args.replies.now to row within c.index-replies-to.is in
    omega (arith, count, fewer_there (λ p. p) order index to to there refl, c.requires.by_place to row.items row_at, row.ok.0)

pub overflow_add-index_mut : goal.overflow_add-index_mut
overflow_add-index_mut g c =
    let order = c.args.order.now in
    let index = c.loop-index.index in
    let to = get_or order index 0 in
    let below : index < length order = omega (arith, c.loop-index-test.true, c.loop-index.auto.index-end) in
    let within = c.requires.within index 0 below in
    let there = slice_get-get_or order index 0 below in
    let count = count_there (λ p. p) (length c.args.replies.now) order index to c.loop-index.next.items c.index_mut.result.now c.loop-index.invariant.next within c.index_mut.ensures.value in
    omega (arith, count, fewer_there (λ p. p) order index to to there refl, short (λ p. p) to order)

pub loop-index-preserved : goal.loop-index-preserved
loop-index-preserved g c =
    let order = c.args.order.now in
    let index = c.loop-index.index in
    let places = length c.args.replies.now in
    let to = get_or order index 0 in
    let below : index < length order = omega (arith, c.loop-index-test.true, c.loop-index.auto.index-end) in
    let within = c.requires.within index 0 below in
    let there = slice_get-get_or order index 0 below in
    let next = c.loop-index.next.items in
    let rows = map (λ (row : Vec g.row.X.Denot Global). row.items) c.args.replies.now in
    let row = c.index-replies-to.result in
    let reply = c.index-in-loop-index.result.now in
    let count = count_there (λ p. p) places order index to next c.index.result.now c.loop-index.invariant.next within c.index.ensures in
    let row_at = shown_there (λ (row : Vec g.row.X.Denot Global). row.items) c.args.replies.now to row within c.index-replies-to.is in
    let more = c.index_mut.ensures.value ∙ get_or_default next to c.index_mut.result.now 0 (omega (arith, within, c.loop-index.invariant.next.as_many)) in
    record {
      next = one_counted (λ p. p) places order index to to next (c.index_mut.result.now + 1) c.loop-index.invariant.next there refl within (ap (λ n. n + 1) more);
      told = subst (AreMerged (λ p. p) order rows (index + 1)) (sym c.in_ok-push.ensures.items)
          (one_merged (λ p. p) order rows index to to c.loop-index.told.items row.items c.index.result.now reply c.loop-index.invariant.told c.requires.by_place there refl row_at count c.index-in-loop-index.ensures);
    }

pub returns : goal.returns
returns g c =
    let rows = map (λ (row : Vec g.row.X.Denot Global). row.items) c.args.replies.now in
    all_merged (λ p. p) c.args.order.now rows c.loop-index.index c.loop-index.told.items c.loop-index.invariant.told c.requires.by_place (omega (arith, c.loop-index-test.false, c.loop-index.auto.index-end))
