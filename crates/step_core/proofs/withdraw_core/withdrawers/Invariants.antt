use Rattle.std.proofs.Common.{◌≡◌, All, map}
use Rattle.step_core.proofs.withdraw_core.withdrawers.Given as goal
use Rattle.step_core.specs.WithdrawCore.{HasReplyRoom, tab_of}
use Rattle.step_core.specs.Withdrawing.{opened_tab}

-- a withdrawer for each list so far
abbrev pub invariant-loop-list : goal.invariant-loop-list
invariant-loop-list l = record {
  tabs : map tab_of l.tabs.items ≡ map (opened_tab l.index.numbers.items) (map (λ list. list.items) l.yielded);
  room : All HasReplyRoom l.tabs.items;
}
