use Rattle.std.proofs.Common.{◌∙◌, [], ◌∷◌, ap, arith, length, length-append, map, sym, take}
use Rattle.store_spec.proofs.Common.{YieldsList-end, YieldsList-from_vec, YieldsList-turn, length-map, take_all}
use Rattle.std.proofs.lemmas.Iterator.Consumers.{YieldsList-at, YieldsList-from_enumerate}
use Rattle.std.proofs.lemmas.List.FromFn.{length-enumerate_from}
use Rattle.phase_kind.proofs.Columns.{dealt_next, entry_at, grown_none, length-grown}
use Rattle.phase_kind.proofs.table.deal.Goals as goal
use Rattle.phase_kind.specs.Table.{grown}

pub loop-place-init : goal.loop-place-init
loop-place-init g c = sym (grown_none (map (λ column. column.items) c.args.columns.now.items))

pub index_mut-requires : goal.index_mut-requires
index_mut-requires g c =
    let row = c.args.row.items in
    let chain = YieldsList-at c.into_iter-place-iterator.ensures.into_iter_gives (YieldsList-from_enumerate (YieldsList-at c.enumerate-place-items.ensures.source (YieldsList-from_vec row c.into_iter.ensures.rest (c.into_iter.ensures.len ∙ c.args.row.ok.0))) c.enumerate-place-items.ensures.count) in
    let turn = YieldsList-turn chain c.loop-place.yielded c.loop-place.place-iterator c.loop-place.yielded_by c.next.result c.next.new.self (c.in-Some.place, c.in-Some.entry) c.in-Some.is c.next.ensures.steps in
    let at = entry_at row (length c.loop-place.yielded) c.in-Some.place c.in-Some.entry turn.0 turn.1 in
    let columns = c.loop-place.columns in
    let before = map (λ column. column.items) c.args.columns.now.items in
    omega (arith, at.0, at.1, c.requires, columns.ok.0, length-map columns.items (λ column. column.items), ap length c.loop-place.invariant, length-grown before (take (length c.loop-place.yielded) row), length-map c.args.columns.now.items (λ column. column.items))

pub loop-place-preserved : goal.loop-place-preserved
loop-place-preserved g c =
    let row = c.args.row.items in
    let chain = YieldsList-at c.into_iter-place-iterator.ensures.into_iter_gives (YieldsList-from_enumerate (YieldsList-at c.enumerate-place-items.ensures.source (YieldsList-from_vec row c.into_iter.ensures.rest (c.into_iter.ensures.len ∙ c.args.row.ok.0))) c.enumerate-place-items.ensures.count) in
    let turn = YieldsList-turn chain c.loop-place.yielded c.loop-place.place-iterator c.loop-place.yielded_by c.next.result c.next.new.self (c.in-Some.place, c.in-Some.entry) c.in-Some.is c.next.ensures.steps in
    let at = entry_at row (length c.loop-place.yielded) c.in-Some.place c.in-Some.entry turn.0 turn.1 in
    let before = map (λ column. column.items) c.args.columns.now.items in
    dealt_next (λ column. column.items) c.loop-place.columns.items before row (length c.loop-place.yielded) c.in-Some.place c.index_mut.result.now c.push.new.self c.in-Some.entry c.loop-place.invariant (c.requires ∙ sym (length-map c.args.columns.now.items (λ column. column.items))) at.1 at.0 at.2 c.index_mut.ensures.value c.in_ok-push.ensures.items
    ∙ ap (λ n. grown before (take n row)) (sym (length-append c.loop-place.yielded ((c.in-Some.place, c.in-Some.entry) ∷ [])))

pub returns : goal.returns
returns g c =
    let row = c.args.row.items in
    let chain = YieldsList-at c.into_iter-place-iterator.ensures.into_iter_gives (YieldsList-from_enumerate (YieldsList-at c.enumerate-place-items.ensures.source (YieldsList-from_vec row c.into_iter.ensures.rest (c.into_iter.ensures.len ∙ c.args.row.ok.0))) c.enumerate-place-items.ensures.count) in
    let end = YieldsList-end chain c.loop-place.yielded c.loop-place.place-iterator c.loop-place.yielded_by c.next.result c.next.new.self c.in-None.is c.next.ensures.steps in
    c.loop-place.invariant
    ∙ ap (grown (map (λ column. column.items) c.args.columns.now.items)) (take_all (length c.loop-place.yielded) row (omega (arith, end.1, length-enumerate_from 0 row)))
