use Rattle.std.proofs.Common.{◌+◌, ◌++◌, ◌∙◌, [], ◌∷◌, List, ap, arith, drop, length, subst, sym}
use Rattle.store_spec.proofs.Common.{length-drop, with_items_is}
use Rattle.phase_kind.proofs.Teams.{named_ahead}
use Rattle.phase_kind.proofs.Trays.{take_next}
use Rattle.phase_kind.proofs.team.Team.answer_next.Goals as goal
use Rattle.phase_kind.specs.Team.{AnswersAt, AreNamed, IsTeam, TeamView}
use Rattle.phase_kind.specs.Worker.{WorkerView}

pub answer_entry-requires-clause-team : goal.answer_entry-requires-clause-team
answer_entry-requires-clause-team g c κs within =
    let W = WorkerView g.row.K-Sight.Denot g.row.K-Item.Denot g.row.K-Reply.Denot in
    let T = TeamView g.row.K-Sight.Denot g.row.K-Item.Denot g.row.K-Reply.Denot in
    subst (λ (ws : List W). IsTeam c.args.phases.now ws) (sym c.deref_mut.ensures.value) (subst (λ (t : T). IsTeam c.args.phases.now t.workers) (sym c.self.view_is) c.requires.team)

pub answer_entry-requires-clause-there : goal.answer_entry-requires-clause-there
answer_entry-requires-clause-there g c κs within =
    let T = TeamView g.row.K-Sight.Denot g.row.K-Item.Denot g.row.K-Reply.Denot in
    let a = c.self.inside in
    omega (arith, length-drop a.handled a.order.now, ap (λ (t : T). length t.ahead) c.self.view_is, c.requires.ahead)

pub answer_entry-requires-clause-named : goal.answer_entry-requires-clause-named
answer_entry-requires-clause-named g c κs within =
    let W = WorkerView g.row.K-Sight.Denot g.row.K-Item.Denot g.row.K-Reply.Denot in
    let a = c.self.inside in
    subst (λ (ws : List W). AreNamed (drop a.handled a.order.now) ws) (sym c.deref_mut.ensures.value) c.self.invariant.named

pub invariant_of-self : goal.invariant_of-self
invariant_of-self g c =
    let W = WorkerView g.row.K-Sight.Denot g.row.K-Item.Denot g.row.K-Reply.Denot in
    let T = TeamView g.row.K-Sight.Denot g.row.K-Item.Denot g.row.K-Reply.Denot in
    let a = c.self.inside in
    let after = c.answer_entry.new.workers in
    record {
      within = omega (arith, length-drop a.handled a.order.now, ap (λ (t : T). length t.ahead) c.self.view_is, c.requires.ahead);
      named = subst (λ (ws : List W). AreNamed (drop (a.handled + 1) a.order.now) ws) (sym (with_items_is a.workers after (omega (arith, c.answer_entry.auto.workers, c.deref_mut.ensures.len)))) c.answer_entry.ensures.named;
    }

pub returns : goal.returns
returns g c =
    let W = WorkerView g.row.K-Sight.Denot g.row.K-Item.Denot g.row.K-Reply.Denot in
    let T = TeamView g.row.K-Sight.Denot g.row.K-Item.Denot g.row.K-Reply.Denot in
    let a = c.self.inside in
    let order = a.order.now in
    let after = c.answer_entry.new.workers in
    let written = with_items_is a.workers after (omega (arith, c.answer_entry.auto.workers, c.deref_mut.ensures.len)) in
    let answers = c.answer_entry.ensures.answers in
    let place = answers.0 in
    let rests = g.K.Kind.rests in
    record {
      place = place;
      ahead = ap (λ (t : T). t.ahead) (sym c.self.view_is) ∙ named_ahead order a.workers.items a.handled place c.self.invariant.named answers.1;
      handled = take_next order a.handled place answers.1 ∙ ap (λ (t : T). t.handled ++ place ∷ []) c.self.view_is;
      answers = subst (λ (ws : List W). AnswersAt rests place c.args.self.now.workers ws) (sym written)
          (subst (λ (t : T). AnswersAt rests place t.workers after) c.self.view_is (subst (λ (ws : List W). AnswersAt rests place ws after) c.deref_mut.ensures.value answers.2));
    }
