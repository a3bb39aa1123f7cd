use Rattle.std.proofs.Common.{◌≡◌, All, map}
use Rattle.step_core.proofs.cast_core.tabulators.Given as goal
use Rattle.step_core.specs.CastCore.{HasReplyRoom, tab_of}
use Rattle.step_core.specs.Casting.{opened_tabs}

-- a tabulator for each list so far
abbrev pub invariant-loop-list : goal.invariant-loop-list
invariant-loop-list l = record {
  tabs : map tab_of l.tabs.items ≡ opened_tabs l.base l.claims (map (λ list. list.items) l.yielded);
  room : All HasReplyRoom l.tabs.items;
}
