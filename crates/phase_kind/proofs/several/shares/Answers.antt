use Rattle.std.proofs.Common.{◌+◌, ◌∙◌, ap, arith, get_or, refl, subst}
use Rattle.store_spec.proofs.Common.{get_or_default, slice_get-get_or, take_all}
use Rattle.phase_kind.proofs.Counts.{AreCounts, are_shares, count_there, fewer_there, none_counted, one_counted, short}
use Rattle.phase_kind.proofs.several.shares.Goals as goal

pub loop-place-init : goal.loop-place-init
loop-place-init c = none_counted (λ p. p) c.args.places c.in_ok-shares.shares.items (c.in_ok-shares.ensures.items_if_clones_equal (λ y is. is))

pub index_mut-requires : goal.index_mut-requires
index_mut-requires c = omega (arith, c.requires.within c.loop-place.place-index 0 c.loop-place-test.true, c.loop-place.invariant.as_many, c.loop-place.shares.ok.0)

pub overflow_add-index_mut : goal.overflow_add-index_mut
overflow_add-index_mut c =
    let order = c.args.order.now in
    let index = c.loop-place.place-index in
    let to = get_or order index 0 in
    let within = c.requires.within index 0 c.loop-place-test.true in
    let there = slice_get-get_or order index 0 c.loop-place-test.true in
    let count = count_there (λ p. p) c.args.places order index to c.loop-place.shares.items c.index_mut.result.now c.loop-place.invariant within c.index_mut.ensures.value in
    omega (arith, count, fewer_there (λ p. p) order index to to there refl, short (λ p. p) to order)

pub loop-place-preserved : goal.loop-place-preserved
loop-place-preserved c =
    let order = c.args.order.now in
    let index = c.loop-place.place-index in
    let to = get_or order index 0 in
    let within = c.requires.within index 0 c.loop-place-test.true in
    let there = slice_get-get_or order index 0 c.loop-place-test.true in
    let counted = c.loop-place.invariant in
    let count = c.index_mut.ensures.value ∙ get_or_default c.loop-place.shares.items to c.index_mut.result.now 0 (omega (arith, within, counted.as_many)) in
    one_counted (λ p. p) c.args.places order index to to c.loop-place.shares.items (c.index_mut.result.now + 1) counted there refl within (ap (λ n. n + 1) count)

pub returns : goal.returns
returns c =
    let counts = c.loop-place.shares.items in
    are_shares (λ p. p) c.args.places c.args.order.now counts
    (subst (λ l. AreCounts (λ p. p) c.args.places l counts) (take_all c.loop-place.place-index c.args.order.now (omega (arith, c.loop-place-test.false))) c.loop-place.invariant)
