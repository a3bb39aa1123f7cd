use Rattle.std.proofs.Common.{◌≡◌, ℕ, ◌-◌, ◌<◌, ◌++◌, List, drop, length, get_or, map, sym, take, ap, ◌∙◌, arith, rules}
use Rattle.store_spec.proofs.Common.{All-permutation, IsNonDecreasing, IsNonDecreasingBy, IsPermutation-map, ascending, get_or-map, length-map, numbers_in, take_all}
use Rattle.std.proofs.lemmas.List.Sorted.{IsNonDecreasingBy-from_sort_by_key}
use Rattle.body_store.proofs.Filled.{numbers_on}
use Rattle.body_store.proofs.lookup.in_order.Goals as goal
use Rattle.body_store.specs.declared.lookup.Place.{Place}
use Rattle.layout_def.proofs.Ascending.{ascending-IsPermutation, ascending_rising}
use Rattle.layout_def.proofs.Changing.{part_stands}

abbrev no_place : Place
no_place = record { number = 0; cell = 0 }

rises : (places : List Place) → IsNonDecreasingBy (λ place. place.number) places → IsNonDecreasing (map (λ place. place.number) places)
rises places up i j d le lt =
    let size = length-map places (λ (place : Place). place.number) in
    let number : Place → ℕ = λ place. place.number in
    omega (arith, up i j no_place le (omega (arith, lt, size)), get_or-map number places i no_place d (omega (arith, le, lt, size)), get_or-map number places j no_place d (omega (arith, lt, size)))

pub loop-at-preserved : goal.loop-at-preserved
loop-at-preserved c =
    let cells = c.args.cells.now in
    let at = c.loop-at.at in
    let end = c.min-end.result in
    let put = c.in_ok-push_filled.ensures in
    let block = take (end - at) (drop at cells) in
    record {
      within = omega (arith, c.min-end.ensures);
      numbers =
          put.numbers
          ∙ ap (λ numbers. numbers ++ numbers_in block) c.loop-at.invariant.numbers
          ∙ sym (numbers_on cells at end (omega (arith, c.min-end.ensures, c.loop-at-test.true)));
      are = put.cells cells (part_stands cells at (end - at)) c.loop-at.invariant.are;
    }

pub returns-clause-numbers : goal.returns-clause-numbers
returns-clause-numbers c =
    let number : Place → ℕ = λ place. place.number in
    let places = c.loop-at.places.items in
    let sorted = c.sort_unstable_by_key.new.self.items in
    let up = IsNonDecreasingBy-from_sort_by_key (λ place. place.number) sorted c.sort_unstable_by_key.ensures.sorted (λ a r q k. search rules) in
    sym (ascending_rising (map number sorted) (rises sorted up))
    ∙ ascending-IsPermutation (map number places) (map number sorted) (IsPermutation-map number places sorted c.sort_unstable_by_key.ensures.permutation)
    ∙ ap ascending (c.loop-at.invariant.numbers ∙ ap numbers_in (take_all c.loop-at.at c.args.cells.now c.loop-at-test.false))

pub returns-clause-cells : goal.returns-clause-cells
returns-clause-cells c =
    let cells = c.args.cells.now in
    let is_at : Place → Type 0 = λ place. (place.cell < length cells) × (get_or cells place.cell 0 ≡ place.number) in
    All-permutation is_at c.loop-at.places.items c.sort_unstable_by_key.new.self.items c.sort_unstable_by_key.ensures.permutation c.loop-at.invariant.are
