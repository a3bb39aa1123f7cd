use Rattle.std.proofs.Common.{All, subst}
use Rattle.phase_kind.proofs.team.Team.rests.Goals as goal
use Rattle.phase_kind.specs.Team.{TeamView}
use Rattle.phase_kind.specs.Worker.{WorkerView}

pub returns : goal.returns
returns g c =
    let T = TeamView g.row.K-Sight.Denot g.row.K-Item.Denot g.row.K-Reply.Denot in
    let W = WorkerView g.row.K-Sight.Denot g.row.K-Item.Denot g.row.K-Reply.Denot in
    subst (λ (t : T). All (λ (worker : W). g.K.Kind.rests worker.seat) t.workers) c.self.view_is
    (subst (All (λ (worker : W). g.K.Kind.rests worker.seat)) c.deref.ensures.value c.all_rest.ensures)
