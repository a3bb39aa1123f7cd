use Rattle.std.proofs.Common.{◌≡◌, ◌-◌, vec_len}
use Rattle.step_core.proofs.tabulator.Tabulator.catch_up.Given as goal
use Rattle.step_core.specs.CastCore.{KeepsList, tab_of}
use Rattle.step_core.specs.Casting.{caught_up}

-- what is answered from here on is what was to be answered
abbrev pub invariant-answers : goal.invariant-answers
invariant-answers l = record {
  caught_up : caught_up l.base l.claims (tab_of l.self) ≡ caught_up l.base l.claims (tab_of l.initial.self);
  kept : KeepsList l.initial.self l.self;
}

abbrev pub decreases-answers : goal.decreases-answers
decreases-answers l = vec_len l.self.list - vec_len l.self.replies
