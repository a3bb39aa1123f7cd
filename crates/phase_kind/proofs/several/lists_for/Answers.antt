use Rattle.std.proofs.Common.{◌∙◌, ◌<◌, ◌^◌, List, ℕ, ap, arith, get_or, length, refl, slice_get, sym, zip}
use Rattle.store_spec.proofs.Common.{slice_get-get_or, slice_get_within}
use Rattle.phase_kind.proofs.Counts.{short, something_there}
use Rattle.phase_kind.proofs.Planned.{zipped_at}
use Rattle.phase_kind.proofs.Shared.{none_filled}
use Rattle.phase_kind.proofs.several.lists_for.Goals as goal

pub new_lists-requires-clause-as_many : goal.new_lists-requires-clause-as_many
new_lists-requires-clause-as_many g c κs within = ap length c.deref.ensures.value ∙ c.in_ok-shares.ensures.as_many

pub new_lists-requires-clause-few : goal.new_lists-requires-clause-few
new_lists-requires-clause-few g c κs within k d below =
    let shares = c.deref.result.now in
    let share = get_or shares k d in
    let is = c.in_ok-shares.ensures.each k share (ap (λ (l : List ℕ). slice_get l k) (sym c.deref.ensures.value) ∙ slice_get-get_or shares k d below) in
    let few : length c.args.order.now < 2 ^ 32 = c.if-not-is_short.ensures.0 refl in
    omega (arith, is, short (λ p. p) k c.args.order.now, few)

pub returns-clause-is_of : goal.returns-clause-is_of
returns-clause-is_of g c k d within =
    let stores = c.args.stores.now in
    let shares = c.deref.result.now in
    let lists = c.in_ok-lists.lists.items in
    let both = get_or (zip stores lists) k d in
    let parts = zipped_at stores lists k both (slice_get-get_or (zip stores lists) k d within) in
    let share = something_there shares k (omega (arith, slice_get_within stores k both.0 parts.0, ap length c.deref.ensures.value, c.in_ok-shares.ensures.as_many)) in
    (c.in_ok-lists.ensures.new k both.0 share.0 both.1 parts.0 share.1 parts.1).0

pub returns-clause-filled : goal.returns-clause-filled
returns-clause-filled g c =
    let stores = c.args.stores.now in
    let shares = c.deref.result.now in
    let lists = c.in_ok-lists.lists.items in
    none_filled g.K.Kind.items g.K.Kind.room (length stores) c.args.order.now lists c.in_ok-lists.ensures.as_many
    (λ place list there.
    let within : place < length stores = omega (arith, slice_get_within lists place list there, c.in_ok-lists.ensures.as_many) in
    let store = something_there stores place within in
    let share = something_there shares place (omega (arith, within, ap length c.deref.ensures.value, c.in_ok-shares.ensures.as_many)) in
    let new = c.in_ok-lists.ensures.new place store.0 share.0 list store.1 share.1 there in
    (new.1, new.2 ∙ c.in_ok-shares.ensures.each place share.0 (ap (λ (l : List ℕ). slice_get l place) (sym c.deref.ensures.value) ∙ share.1)))
