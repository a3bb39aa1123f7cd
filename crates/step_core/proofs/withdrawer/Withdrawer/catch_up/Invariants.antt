use Rattle.std.proofs.Common.{◌≡◌, ◌-◌, vec_len}
use Rattle.step_core.proofs.withdrawer.Withdrawer.catch_up.Given as goal
use Rattle.step_core.specs.WithdrawCore.{KeepsList, tab_of}
use Rattle.step_core.specs.Withdrawing.{caught_up}

abbrev pub invariant-answers : goal.invariant-answers
invariant-answers l =
    (caught_up l.index.numbers.items (tab_of l.self) ≡ caught_up l.index.numbers.items (tab_of l.initial.self))
    × KeepsList l.initial.self l.self

abbrev pub decreases-answers : goal.decreases-answers
decreases-answers l = vec_len l.self.list - vec_len l.self.replies
