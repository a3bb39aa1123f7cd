use Rattle.std.proofs.Common.{sym, ap, ◌∙◌}
use Rattle.store_spec.proofs.Common.{IsNonDecreasingBy-from_sort, ascending}
use Rattle.step_core.proofs.index.in_order.Goals as goal
use Rattle.layout_def.proofs.Ascending.{ascending-IsPermutation, ascending_rising}

pub returns-clause-ascending : goal.returns-clause-ascending
returns-clause-ascending c =
    sym (ascending_rising c.sort_unstable.new.self.items (IsNonDecreasingBy-from_sort (λ x. x) _ c.sort_unstable.ensures.sorted))
    ∙ ascending-IsPermutation _ _ c.sort_unstable.ensures.permutation
    ∙ ap ascending c.in_ok-sorted.ensures.items

pub returns-clause-in_order : goal.returns-clause-in_order
returns-clause-in_order c = IsNonDecreasingBy-from_sort (λ x. x) _ c.sort_unstable.ensures.sorted
