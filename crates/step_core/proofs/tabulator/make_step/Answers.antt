use Rattle.std.proofs.Common.{sym, subst}
use Rattle.store_spec.proofs.Common.{CastState}
use Rattle.step_core.proofs.CoreSteps.{may_tell}
use Rattle.step_core.proofs.tabulator.make_step.Goals as goal
use Rattle.step_core.specs.CastCore.{HasTried, tab_of}
use Rattle.step_core.specs.Shape.{table_of}

pub tell-requires-clause-left : goal.tell-requires-clause-left
tell-requires-clause-left c =
    let tab = tab_of c.args.tab.now in
    let tried = subst (λ (s : CastState). HasTried s tab.left) (sym c.in-Some.ensures.0) c.requires.may_step.tried in
    may_tell (table_of c.args.shape.now) _ _ _ _ _ _ tab.left c.cast_after-state.ensures tried
