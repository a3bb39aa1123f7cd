use Rattle.std.proofs.Common.{ap, arith, length, subst}
use Rattle.store_spec.proofs.Common.{length-drop}
use Rattle.phase_kind.proofs.team.Team.ahead.Goals as goal
use Rattle.phase_kind.specs.Team.{AreNamed, TeamView}

pub returns-clause-ahead : goal.returns-clause-ahead
returns-clause-ahead g c =
    let T = TeamView g.row.K-Sight.Denot g.row.K-Item.Denot g.row.K-Reply.Denot in
    let a = c.self.inside in
    omega (arith, length-drop a.handled a.order.now, ap (λ (t : T). length t.ahead) c.self.view_is)

pub returns-clause-named : goal.returns-clause-named
returns-clause-named g c =
    let T = TeamView g.row.K-Sight.Denot g.row.K-Item.Denot g.row.K-Reply.Denot in
    subst (λ (t : T). AreNamed t.ahead t.workers) c.self.view_is c.self.invariant.named
