use Rattle.std.proofs.Common.{◌≡◌, ◌++◌, ◌∙◌, ℕ, List, arith, drop, length, map, subst, sym, take}
use Rattle.store_spec.proofs.Common.{take_at}
use Rattle.phase_kind.proofs.Shared.{all_shared, goes_within}
use Rattle.phase_kind.proofs.several.share_out.Goals as goal
use Rattle.phase_kind.specs.Team.{AreSharedOut}

pub lists_for-requires-clause-within : goal.lists_for-requires-clause-within
lists_for-requires-clause-within g c κs within =
    goes_within (λ x. g.S.Spread.to c.args.spread.now (g.K.Kind.number x)) (length c.args.stores.now) (g.K.Kind.items c.args.list.now) c.deref.result.now (c.deref.ensures.value ∙ c.in_ok-order.ensures) c.requires.within

pub dealt_out-requires-clause-within : goal.dealt_out-requires-clause-within
dealt_out-requires-clause-within g c κs within =
    goes_within (λ x. g.S.Spread.to c.args.spread.now (g.K.Kind.number x)) (length c.args.stores.now) (g.K.Kind.items c.args.list.now) c.deref-2.result.now (c.deref-2.ensures.value ∙ c.in_ok-order.ensures) c.requires.within

pub returns-clause-lists : goal.returns-clause-lists
returns-clause-lists g c =
    let k = g.K.Kind in
    let goes : g.row.K-Item.Denot → ℕ = λ x. g.S.Spread.to c.args.spread.now (k.number x) in
    let places = length c.args.stores.now in
    let held = c.in_ok-lists.lists in
    let after = c.dealt_out.new.lists in
    let whole : take held.len (after ++ drop (length after) held.items) ≡ after = take_at after (drop (length after) held.items) held.len (omega (arith, c.dealt_out.auto.lists, c.deref_mut.ensures.len, held.ok)) in
    subst (λ (lists : List g.row.K-List.Denot). AreSharedOut goes places (k.items c.args.list.now) (map k.items lists)) (sym whole)
    (all_shared k.items k.room goes places (k.items c.args.list.now) c.deref-2.result.now after (c.deref-2.ensures.value ∙ c.in_ok-order.ensures) c.dealt_out.ensures.filled)
