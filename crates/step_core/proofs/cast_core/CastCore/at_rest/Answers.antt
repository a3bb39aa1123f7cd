use Rattle.std.proofs.Common.{◌≡◌, ◌↔◌, List, true, subst}
use Rattle.store_spec.proofs.Common.{All}
use Rattle.step_core.proofs.CastingEnds.{ends}
use Rattle.step_core.proofs.CastingLists.{all_answered}
use Rattle.step_core.proofs.CoreKept.{done_seen}
use Rattle.step_core.proofs.cast_core.CastCore.at_rest.Goals as goal
use Rattle.step_core.specs.CastCore.{tab_of}
use Rattle.step_core.specs.Casting.{IsDone}
use Rattle.step_core.specs.CastingInvariant.{IsCasting}
use Rattle.step_core.specs.declared.tabulator.Tabulator.{Tabulator}

pub returns-clause-done : goal.returns-clause-done
returns-clause-done c =
    done_seen c.self.inside c.args.self.now c.all_done.result c.self.view_is
    (subst (λ (tabs : List Tabulator). (c.all_done.result ≡ true) ↔ All (λ tab. IsDone (tab_of tab)) tabs) c.deref.ensures.value c.all_done.ensures)

pub returns-clause-outcome : goal.returns-clause-outcome
returns-clause-outcome c = λ done.
    ends c.args.self.now (subst IsCasting c.self.view_is c.self.invariant.casting) ((returns-clause-done c).0 done)

pub returns-clause-answered : goal.returns-clause-answered
returns-clause-answered c = λ done. all_answered c.args.self.now ((returns-clause-done c).0 done)
