use Rattle.std.proofs.Common.{◌++◌, [], ◌∷◌, Global, List, Vec, ap, ap₂, map, map-id, ◌∙◌, rules, sym}
use Rattle.store_spec.proofs.Common.{YieldsList-end, YieldsList-from_vec, map_push}
use Rattle.phase_kind.proofs.team.workers_of.Goals as goal
use Rattle.phase_kind.specs.Team.{TeamView}
use Rattle.phase_kind.specs.Worker.{WorkerView}

pub loop-team-preserved : goal.loop-team-preserved
loop-team-preserved g c =
    let W = WorkerView g.row.K-Sight.Denot g.row.K-Item.Denot g.row.K-Reply.Denot in
    let T = TeamView g.row.K-Sight.Denot g.row.K-Item.Denot g.row.K-Reply.Denot in
    let row_in : Vec W Global → List W = λ row. row.items in
    let workers : T → List W = λ team. team.workers in
    ap (map row_in) c.in_ok-push.ensures.items ∙ map_push row_in c.loop-team.rows.items c.into_workers.result
    ∙ ap₂ (λ (l : List (List W)) (x : List W). l ++ x ∷ []) c.loop-team.invariant c.into_workers.ensures ∙ sym (map_push workers c.loop-team.yielded c.in-Some.team)

pub returns : goal.returns
returns g c =
    let W = WorkerView g.row.K-Sight.Denot g.row.K-Item.Denot g.row.K-Reply.Denot in
    let T = TeamView g.row.K-Sight.Denot g.row.K-Item.Denot g.row.K-Reply.Denot in
    let workers : T → List W = λ team. team.workers in
    let end = YieldsList-end (YieldsList-from_vec c.args.teams.items (search rules) (search rules)) c.loop-team.yielded c.loop-team.team-iterator c.loop-team.yielded_by c.next.result c.next.new.self c.in-None.is c.next.ensures.steps in
    c.loop-team.invariant ∙ ap (map workers) (sym (map-id c.loop-team.yielded) ∙ end.0)
