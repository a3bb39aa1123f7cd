use Rattle.std.proofs.Common.{◌≡◌, ◌+◌, ◌∙◌, [], ◌∷◌, List, Some, ap, arith, get_or, length, length-append, slice_get, subst, sym}
use Rattle.store_spec.proofs.Common.{none-some, slice_get-get_or}
use Rattle.phase_kind.proofs.Shared.{one_new}
use Rattle.phase_kind.proofs.several.new_lists.Goals as goal
use Rattle.phase_kind.specs.Team.{AreEmptyLists}

pub loop-place-init : goal.loop-place-init
loop-place-init g c = record {
  as_many = ap length c.in_ok-lists.ensures.items;
  new = λ place store share list its_store its_share there. absurd (none-some list (sym (ap (λ (l : List g.row.K-List.Denot). slice_get l place) c.in_ok-lists.ensures.items) ∙ there));
}

pub loop-place-preserved : goal.loop-place-preserved
loop-place-preserved g c =
    let k = g.K.Kind in
    let stores = c.args.stores.now in
    let shares = c.args.shares.now in
    let i = c.loop-place.invariant in
    let lists = c.loop-place.lists.items in
    let place = c.loop-place.place in
    let store = c.index-stores-place.result in
    let list = c.in_ok-new_list.field-0 in
    let new = c.in_ok-new_list.ensures in
    let pushed = c.in_ok-push.ensures.items in
    let its_store : slice_get stores (length lists) ≡ Some store = ap (slice_get stores) i.as_many ∙ slice_get-get_or stores place store c.loop-place-test.true ∙ ap (λ s. Some s) (sym c.index-stores-place.is) in
    let its_share : slice_get shares (length lists) ≡ Some (get_or shares place 0) = ap (slice_get shares) i.as_many ∙ slice_get-get_or shares place 0 (omega (arith, c.loop-place-test.true, c.requires.as_many)) in
    record {
      as_many = ap length pushed ∙ length-append lists (list ∷ []) ∙ ap (λ n. n + 1) i.as_many;
      new = subst (λ l. AreEmptyLists k.is_of k.items k.room stores shares l) (sym pushed) (one_new k.is_of k.items k.room stores shares lists list store (get_or shares place 0) i.new its_store its_share new.is_of new.empty new.room);
    }
