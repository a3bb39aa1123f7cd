use Rattle.std.proofs.Common.{◌≡◌, ◌<◌, [], All, arith, get_or, length, subst, sym}
use denote.Exit.{no}
use denote.Param.{param}
use denote.Param.Send.{arg_send, param_send}
use Rattle.phase_kind.proofs.Listed.{at_both}
use Rattle.phase_kind.proofs.Teams.{all_idle}
use Rattle.phase_kind.proofs.several.run_several.Goals as goal
use Rattle.phase_kind.specs.Team.{HasHandled, IsTeam, TeamView}
use Rattle.phase_kind.specs.Worker.{WorkerView}

pub for_each_mut-requires-clause-accepts : goal.for_each_mut-requires-clause-accepts
for_each_mut-requires-clause-accepts g c κs bounds i p within is =
    let T = TeamView g.row.K-Sight.Denot g.row.K-Item.Denot g.row.K-Reply.Denot in
    let teams = c.args.teams.now in (
      subst (λ (team : T). IsTeam c.args.phases.now team.workers) {x = get_or teams i p.now} {y = p.now} (sym is) (c.requires.belong i p.now within),
      (param_send 4 _ (arg_send _ no (param 5 g.row.K-Seat) c.type_bounds.send-K-Seat), param_send 6 _ (arg_send _ no (param 7 g.row.K-List) c.type_bounds.send-K-List), record { owned = c.type_bounds.send-K-Reply.owned; leaving = λ k x w. tt }, record { shared = c.type_bounds.sync-T.shared }, record { shared = c.type_bounds.sync-K.shared }, record { shared = c.type_bounds.sync-K-Words.shared }, record { shared = c.type_bounds.sync-K-List.shared }),
    )

pub returns-clause-handled : goal.returns-clause-handled
returns-clause-handled g c =
    let T = TeamView g.row.K-Sight.Denot g.row.K-Item.Denot g.row.K-Reply.Denot in
    let rests = g.K.Kind.rests in
    at_both (λ (before after : T). HasHandled rests before after) c.args.teams.now c.for_each_mut.new.s c.for_each_mut.auto.s
    (λ k team within.
    let at = (c.for_each_mut.ensures k team within).1 in
    let handled : HasHandled rests at.argument.now at.after_call.now = at.call.1 in
    subst (λ (t : T). HasHandled rests t (get_or c.for_each_mut.new.s k team)) {x = at.argument.now} {y = get_or c.args.teams.now k team} at.argument_is
    (subst (λ (t : T). HasHandled rests at.argument.now t) {x = at.after_call.now} {y = get_or c.for_each_mut.new.s k team} at.left handled))

pub returns-clause-idle : goal.returns-clause-idle
returns-clause-idle g c k d within =
    let W = WorkerView g.row.K-Sight.Denot g.row.K-Item.Denot g.row.K-Reply.Denot in
    let T = TeamView g.row.K-Sight.Denot g.row.K-Item.Denot g.row.K-Reply.Denot in
    let before : k < length c.args.teams.now = omega (arith, within, c.for_each_mut.auto.s) in
    let at = (c.for_each_mut.ensures k d before).1 in
    let handled : HasHandled g.K.Kind.rests at.argument.now at.after_call.now = at.call.1 in
    subst (λ (t : T). All (λ (worker : W). worker.waiting ≡ []) t.workers) {x = at.after_call.now} {y = get_or c.for_each_mut.new.s k d} at.left
    (all_idle g.K.Kind.rests at.argument.now.workers at.after_call.now.workers handled.finished)
