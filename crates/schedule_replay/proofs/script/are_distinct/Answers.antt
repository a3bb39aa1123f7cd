use Rattle.std.proofs.Common.{subst, sym}
use Rattle.store_spec.proofs.Common.{IsNonDecreasingBy-from_sort, IsStrictlyIncreasing}
use Rattle.schedule_replay.proofs.Takings.{distinct_sorted, sorted_distinct}
use Rattle.schedule_replay.proofs.script.are_distinct.Goals as goal

pub returns : goal.returns
returns c =
    let numbers = c.args.numbers.now in
    let copy = c.in_ok-sorted.sorted.items in
    let sorted = c.sort_unstable.new.self.items in
    let is = c.in_ok-sorted.ensures.items in
    let same = c.sort_unstable.ensures.permutation in
    let order = IsNonDecreasingBy-from_sort (λ n. n) sorted c.sort_unstable.ensures.sorted in (
      λ yes. sorted_distinct numbers copy sorted is same (subst IsStrictlyIncreasing c.deref.ensures.value (c.rises.ensures.0 yes)),
      λ apart. c.rises.ensures.1 (subst IsStrictlyIncreasing (sym c.deref.ensures.value) (distinct_sorted numbers copy sorted is same order apart)),
    )
