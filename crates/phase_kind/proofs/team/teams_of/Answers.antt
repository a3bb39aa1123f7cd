use Rattle.std.proofs.Common.{◌≡◌, ◌+◌, ◌++◌, ◌∙◌, [], ◌∷◌, Global, List, Vec, ap, arith, get_or, length, length-append, map, rules, subst, sym, zip, ℕ}
use Rattle.store_spec.proofs.Common.{YieldsList-end, YieldsList-from_vec, YieldsList-turn, map-id, map_push}
use Rattle.phase_kind.proofs.Counts.{something_there}
use Rattle.phase_kind.proofs.Trays.{zip_under}
use Rattle.phase_kind.proofs.team.teams_of.Goals as goal
use Rattle.phase_kind.specs.Team.{AreNamed, TeamView, new_team}
use Rattle.phase_kind.specs.Worker.{WorkerView}
use Rattle.store_spec.proofs.Common.{get_or_from_slice_get}
use Rattle.word_rule.proofs.AtPlaces.{at_one_place}

pub team_up-requires-clause-within : goal.team_up-requires-clause-within
team_up-requires-clause-within g c κs within =
    let rows = c.args.rows.items in
    let turn = YieldsList-turn (YieldsList-from_vec rows (search rules) (search rules)) c.loop-row.yielded c.loop-row.row-iterator c.loop-row.yielded_by c.next.result c.next.new.self c.in-Some.row c.in-Some.is c.next.ensures.steps in
    omega (arith, turn.0, c.requires.as_many, c.loop-row.invariant.as_many)

pub team_up-requires-clause-named : goal.team_up-requires-clause-named
team_up-requires-clause-named g c κs within d =
    let W = WorkerView g.row.K-Sight.Denot g.row.K-Item.Denot g.row.K-Reply.Denot in
    let rows = c.args.rows.items in
    let orders = c.args.orders.now in
    let turn = YieldsList-turn (YieldsList-from_vec rows (search rules) (search rules)) c.loop-row.yielded c.loop-row.row-iterator c.loop-row.yielded_by c.next.result c.next.new.self c.in-Some.row c.in-Some.is c.next.ensures.steps in
    let row = c.in-Some.row in
    subst (λ (k : ℕ). AreNamed (get_or orders k d).items row.items) (sym c.loop-row.invariant.as_many)
    (subst (λ (r : Vec W Global). AreNamed (get_or orders (length c.loop-row.yielded) d).items r.items) (sym turn.1)
    (at_one_place (λ at. AreNamed at.1.items at.0.items) rows orders (length c.loop-row.yielded) (row, d) c.requires.as_many c.requires.named turn.0))

pub loop-row-preserved : goal.loop-row-preserved
loop-row-preserved g c =
    let W = WorkerView g.row.K-Sight.Denot g.row.K-Item.Denot g.row.K-Reply.Denot in
    let T = TeamView g.row.K-Sight.Denot g.row.K-Item.Denot g.row.K-Reply.Denot in
    let i = c.loop-row.invariant in
    let rows = c.args.rows.items in
    let orders = c.args.orders.now in
    let yielded = c.loop-row.yielded in
    let teams = c.loop-row.teams.items in
    let row = c.in-Some.row in
    let made : Vec W Global × Vec ℕ Global → T = λ at. new_team at.0.items at.1.items in
    let turn = YieldsList-turn (YieldsList-from_vec rows (search rules) (search rules)) c.loop-row.yielded c.loop-row.row-iterator c.loop-row.yielded_by c.next.result c.next.new.self c.in-Some.row c.in-Some.is c.next.ensures.steps in
    let order = something_there orders (length yielded) (omega (arith, turn.0, c.requires.as_many)) in
    let is : get_or orders (length teams) order.0 ≡ order.0 = ap (λ (k : ℕ). get_or orders k order.0) i.as_many ∙ get_or_from_slice_get orders (length yielded) order.0 order.0 order.1 in
    let pushed : c.team_up.new.teams.items ≡ teams ++ made (row, order.0) ∷ [] = c.in_ok-team_up.ensures order.0 ∙ ap (λ (o : Vec ℕ Global). teams ++ made (row, o) ∷ []) is in
    record {
      as_many = ap length pushed ∙ length-append teams (made (row, order.0) ∷ []) ∙ ap (λ n. n + 1) i.as_many ∙ sym (length-append yielded (row ∷ []));
      made = pushed ∙ ap (λ (l : List T). l ++ made (row, order.0) ∷ []) i.made ∙ sym (ap (map made) (zip_under yielded orders row order.0 order.1) ∙ map_push made (zip yielded orders) (row, order.0));
    }

pub returns : goal.returns
returns g c =
    let W = WorkerView g.row.K-Sight.Denot g.row.K-Item.Denot g.row.K-Reply.Denot in
    let T = TeamView g.row.K-Sight.Denot g.row.K-Item.Denot g.row.K-Reply.Denot in
    let rows = c.args.rows.items in
    let made : Vec W Global × Vec ℕ Global → T = λ at. new_team at.0.items at.1.items in
    let end = YieldsList-end (YieldsList-from_vec rows (search rules) (search rules)) c.loop-row.yielded c.loop-row.row-iterator c.loop-row.yielded_by c.next.result c.next.new.self c.in-None.is c.next.ensures.steps in
    c.loop-row.invariant.made ∙ ap (λ (l : List (Vec W Global)). map made (zip l c.args.orders.now)) (sym (map-id c.loop-row.yielded) ∙ end.0)
