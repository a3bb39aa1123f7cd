use Rattle.std.proofs.Common.{◌↔◌, IsTrue, List, subst}
use Rattle.store_spec.proofs.Common.{All}
use Rattle.step_core.proofs.WithdrawCoreEnds.{all_done, has_ended}
use Rattle.step_core.proofs.WithdrawingLists.{all_answered}
use Rattle.step_core.proofs.withdraw_core.WithdrawCore.at_rest.Goals as goal
use Rattle.step_core.specs.WithdrawCore.{tab_of}
use Rattle.step_core.specs.Withdrawing.{IsDone}
use Rattle.step_core.specs.declared.withdrawer.Withdrawer.{Withdrawer}

pub returns-clause-done : goal.returns-clause-done
returns-clause-done c =
    all_done c.self.inside c.args.self.now c.all_done.result c.self.view_is
    (subst (λ (l : List Withdrawer). IsTrue c.all_done.result ↔ All (λ tab. IsDone (tab_of tab)) l) c.deref.ensures.value c.all_done.ensures)

pub returns-clause-outcome : goal.returns-clause-outcome
returns-clause-outcome c =
    has_ended c.self.inside c.args.self.now c.all_done.result c.self.invariant c.self.view_is
    (subst (λ (l : List Withdrawer). IsTrue c.all_done.result ↔ All (λ tab. IsDone (tab_of tab)) l) c.deref.ensures.value c.all_done.ensures)

pub returns-clause-answered : goal.returns-clause-answered
returns-clause-answered c = λ yes.
    all_answered c.args.self.now ((returns-clause-done c).0 yes)
