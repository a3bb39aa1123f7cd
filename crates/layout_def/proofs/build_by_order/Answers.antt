use Rattle.std.proofs.Common.{◌≡◌, ℕ, List, length, replicate, get_or, sym, ap, ◌∙◌, subst, arith, rules}
use Rattle.store_spec.proofs.Common.{HasRoom, IsNonDecreasingBy-from_sort, IsPermutation, ascending, get_or-replicate, laid_out, layout_of, take_at}
use Rattle.layout_def.proofs.Skips.{sound_empty}
use Rattle.layout_def.proofs.build_by_order.Goals as goal
use Rattle.layout_def.proofs.Ascending.{ascending-IsPermutation}
use Rattle.layout_def.proofs.LaidOut.{room-IsPermutation}

pub place_all-requires-clause-rising : goal.place_all-requires-clause-rising
place_all-requires-clause-rising g c = IsNonDecreasingBy-from_sort (λ x. x) _ c.sort_unstable.ensures.sorted

pub place_all-requires-clause-fits : goal.place_all-requires-clause-fits
place_all-requires-clause-fits g c =
    let home = g.O.Order.home c.args.order.now in
    let homes = g.O.Order.homes c.args.order.now in
    let numbers = c.args.numbers.now in
    let all = length c.deref_mut.result.now in
    let size : c.args.cells ≡ all = search rules in
    let moved : IsPermutation numbers c.sort_unstable.new.self.items =
    subst (λ (l : List ℕ). IsPermutation l c.sort_unstable.new.self.items) c.in_ok-waiting.ensures.items c.sort_unstable.ensures.permutation in
    room-IsPermutation home homes all numbers _ moved (subst (λ (n : ℕ). HasRoom home homes n numbers) size c.requires.room)

-- the cells are empty, and each pointer leads to its own cell
pub place_all-requires-clause-sound : goal.place_all-requires-clause-sound
place_all-requires-clause-sound g c =
    let n = c.args.cells in
    let cells : c.deref_mut.result.now ≡ replicate n 0 = search rules in
    let pointers = c.in_ok-onward.onward.items in
    let same : c.deref_mut-2.result.now ≡ pointers = search rules in
    let itself = c.in_ok-onward.ensures.to_itself in
    let one_each = c.in_ok-onward.ensures.one_each in
    let size : length c.deref_mut.result.now ≡ n = search rules in
    sound_empty _ _ (ap length same ∙ one_each ∙ sym size)
    (λ k lt. ap (λ l. get_or l k 0) cells ∙ get_or-replicate n k 0 0 (omega arith))
    (λ k lt. ap (λ l. get_or l k 0) same ∙ itself k (omega arith))

-- the order in which the numbers came does not matter
pub returns : goal.returns
returns g c =
    let home = g.O.Order.home c.args.order.now in
    let size : length c.deref_mut.result.now ≡ c.args.cells = search rules in
    let same : ascending c.sort_unstable.new.self.items ≡ ascending c.args.numbers.now =
    ascending-IsPermutation _ _ c.sort_unstable.ensures.permutation ∙ ap ascending c.in_ok-waiting.ensures.items in
    let kept : length c.place_all.new.cells ≡ c.in_ok-placed.placed.len = search rules in
    take_at c.place_all.new.cells _ _ kept
    ∙ c.place_all.ensures
    ∙ ap (λ n. layout_of home n c.sort_unstable.new.self.items) size
    ∙ ap (laid_out home c.args.cells) same
