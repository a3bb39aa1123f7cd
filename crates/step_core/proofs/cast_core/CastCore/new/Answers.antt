use Rattle.std.proofs.Common.{◌≡◌, ◌≢◌, ◌-◌, ◌^◌, ℕ, List, length, map, sym, ap, ◌∙◌, subst, arith}
use Rattle.store_spec.proofs.Common.{All, All-map, IsNonDecreasing, IsNonDecreasingBy-from_sort, IsPermutation, ascending}
use Rattle.step_core.proofs.CastingEnds.{opened_is}
use Rattle.step_core.proofs.CastingLists.{opened_lists}
use Rattle.step_core.proofs.CoreOpened.{few_words, opened_by, resized_is, sorted_is}
use Rattle.step_core.proofs.cast_core.CastCore.new.Goals as goal
use Rattle.step_core.proofs.cast_core.CastCore.new.Goals.{After-deref, In_ok-tabs}
use Rattle.step_core.specs.Casting.{MayOpen, lists_in, opened_tabs}
use Rattle.step_core.specs.CastingInvariant.{IsCasting}
use Rattle.layout_def.proofs.Ascending.{length-ascending}

in_order : (c : After-deref) → IsNonDecreasing c.sort_unstable.new.self.items
in_order c = IsNonDecreasingBy-from_sort (λ x. x) _ c.sort_unstable.ensures.sorted

pub tabulators-requires : goal.tabulators-requires
tabulators-requires c = subst IsNonDecreasing (sym c.deref.ensures.value) (in_order c)

may_open : (c : In_ok-tabs) → MayOpen c.args.order.bits c.args.limit c.args.start.now (map (λ list. list.items) c.args.lists.items)
may_open c = record {
  few_bits = c.args.order.few_bits;
  distinct = c.requires.distinct;
  some = c.requires.some;
  few = c.requires.within_limit;
  listed = All-map (All (λ x. x ≢ 0)) (λ list. list.items) c.args.lists.items c.requires.listed;
}

sorted : (c : In_ok-tabs) → c.sort_unstable.new.self.items ≡ ascending c.args.start.now
sorted c =
    sorted_is c.args.start.now c.sort_unstable.new.self.items
    (subst (λ (l : List ℕ). IsPermutation l c.sort_unstable.new.self.items) c.in_ok-base.ensures.items c.sort_unstable.ensures.permutation)
    (IsNonDecreasingBy-from_sort (λ x. x) _ c.sort_unstable.ensures.sorted)

pub returns-clause-opened : goal.returns-clause-opened
returns-clause-opened c =
    let bits = c.args.order.bits in
    let limit = c.args.limit in
    let start = c.args.start.now in
    let claims = limit - length start in
    let lists = map (λ list. list.items) c.args.lists.items in
    opened_by bits c.args.order.salt limit start c.sort_unstable.new.self.items c.resize.new.self.items _ lists (sorted c) c.requires.within_limit
    (resized_is bits c.args.order.salt limit c.homes.result c.in_ok-words.words.len claims start c.in_ok-words.words.items c.resize.new.self.items lists
    (may_open c) c.homes.ensures c.in_ok-words.ensures c.in_ok-words.words.ok.0 c.in_ok-resize.ensures.items)
    (c.in_ok-tabs.ensures.tabs ∙ ap (λ b. opened_tabs b claims lists) c.deref.ensures.value)

pub returns-clause-lists : goal.returns-clause-lists
returns-clause-lists c =
    ap lists_in (returns-clause-opened c)
    ∙ opened_lists c.args.order.bits c.args.order.salt c.args.limit c.args.start.now (map (λ list. list.items) c.args.lists.items)

pub returns-clause-invariant : goal.returns-clause-invariant
returns-clause-invariant c =
    subst IsCasting (sym (returns-clause-opened c))
    (opened_is c.args.order.bits c.args.order.salt c.args.limit c.args.start.now (map (λ list. list.items) c.args.lists.items) (may_open c))

pub invariant_of-result : goal.invariant_of-result
invariant_of-result c =
    let bits = c.args.order.bits in
    let limit = c.args.limit in
    let start = c.args.start.now in
    let few = c.requires.within_limit in
    let homes : c.homes.result ≡ 2 ^ bits = c.homes.ensures in
    let size : length c.sort_unstable.new.self.items ≡ length start = ap length (sorted c) ∙ length-ascending start in
    record {
      casting = returns-clause-invariant c;
      cells = omega arith;
      small = omega (arith, few_words bits limit start c.args.order.few_bits c.requires.few_numbers);
      in_order = IsNonDecreasingBy-from_sort (λ x. x) _ c.sort_unstable.ensures.sorted;
      room = c.in_ok-tabs.ensures.room;
    }
