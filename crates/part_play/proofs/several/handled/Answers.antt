use Rattle.std.proofs.Common.{◌≡◌, ◌++◌, ◌∙◌, All, Global, List, Vec, ℕ, ap, arith, drop, length, map, subst, sym, take, zip}
use Rattle.store_spec.proofs.Common.{All-map, length-map, take_at}
use Rattle.part_play.proofs.Stages.{all_belong, all_closed, teams_long, zip_maps}
use Rattle.part_play.proofs.Teamed.{teamed_rows}
use Rattle.part_play.proofs.several.handled.Goals as goal
use Rattle.part_play.specs.Several.{AreReady, HaveWork}
use Rattle.phase_kind.specs.Phase.{OpenPhase}
use Rattle.phase_kind.specs.Table.{IsTurned}
use Rattle.phase_kind.specs.Team.{AreNamed, HaveFinished, IsTeam, TeamView}
use Rattle.phase_kind.specs.Worker.{WorkerView}
use Rattle.step_core.proofs.Sets.{All-from_map}

pub teams_of-requires-clause-as_many : goal.teams_of-requires-clause-as_many
teams_of-requires-clause-as_many g c κs within =
    let W = WorkerView g.row.K-Sight.Denot g.row.K-Item.Denot g.row.K-Reply.Denot in
    omega (arith, c.requires.ready.as_many, length-map c.args.rows.items (λ (row : Vec W Global). row.items), length-map c.args.orders.now (λ (order : Vec ℕ Global). order.items))

pub teams_of-requires-clause-named : goal.teams_of-requires-clause-named
teams_of-requires-clause-named g c κs within =
    let W = WorkerView g.row.K-Sight.Denot g.row.K-Item.Denot g.row.K-Reply.Denot in
    let row_in : Vec W Global → List W = λ row. row.items in
    let order_in : Vec ℕ Global → List ℕ = λ order. order.items in
    let Named : List W × List ℕ → Type 0 = λ at. AreNamed at.1 at.0 in
    All-from_map Named (λ at. (row_in at.0, order_in at.1)) (zip c.args.rows.items c.args.orders.now)
    (subst (All Named) (zip_maps row_in order_in c.args.rows.items c.args.orders.now) c.requires.ready.named)

pub run_several-requires-clause-belong : goal.run_several-requires-clause-belong
run_several-requires-clause-belong g c κs within =
    let W = WorkerView g.row.K-Sight.Denot g.row.K-Item.Denot g.row.K-Reply.Denot in
    let T = TeamView g.row.K-Sight.Denot g.row.K-Item.Denot g.row.K-Reply.Denot in
    let workers : T → List W = λ team. team.workers in
    let row_in : Vec W Global → List W = λ row. row.items in
    let before = c.in_ok-teams.teams.items in
    let many : length c.args.rows.items ≡ length c.args.orders.now = omega (arith, c.requires.ready.as_many, length-map c.args.rows.items row_in, length-map c.args.orders.now (λ (order : Vec ℕ Global). order.items)) in
    let rows_are : map workers before ≡ map row_in c.args.rows.items = ap (map workers) c.in_ok-teams.ensures ∙ teamed_rows c.args.rows.items c.args.orders.now many in
    subst (λ (teams : List T). All (λ (team : T). IsTeam c.deref.result.now team.workers) teams) (sym c.deref_mut.ensures.value)
    (subst (λ (phases : List OpenPhase). All (λ (team : T). IsTeam phases team.workers) before) (sym c.deref.ensures.value)
    (All-from_map (IsTeam c.args.phases.items) workers before (subst (All (IsTeam c.args.phases.items)) (sym rows_are) c.requires.ready.belong)))

pub turned-requires : goal.turned-requires
turned-requires g c =
    let W = WorkerView g.row.K-Sight.Denot g.row.K-Item.Denot g.row.K-Reply.Denot in
    let T = TeamView g.row.K-Sight.Denot g.row.K-Item.Denot g.row.K-Reply.Denot in
    let workers : T → List W = λ team. team.workers in
    let row_in : Vec W Global → List W = λ row. row.items in
    let held = c.in_ok-teams.teams in
    let after = c.run_several.new.teams in
    let whole : take held.len (after ++ drop (length after) held.items) ≡ after = take_at after (drop (length after) held.items) held.len (omega (arith, c.run_several.ensures.as_many, c.deref_mut.ensures.len, held.ok)) in
    let after_are : map row_in c.in_ok-after.after.items ≡ map workers after = c.in_ok-after.ensures ∙ ap (map workers) whole in
    let Long : List W → Type 0 = λ l. length l ≡ c.len-places.result in
    All-from_map Long row_in c.in_ok-after.after.items
    (subst (All Long) (sym after_are)
    (All-map Long workers after (λ k d below. omega (arith, teams_long workers c.deref.result.now after c.run_several.ensures.belong k d below, ap length c.deref.ensures.value, c.len-places.ensures, c.args.phases.ok.0))))

pub closed-requires-clause-as_many : goal.closed-requires-clause-as_many
closed-requires-clause-as_many g c κs within =
    let W = WorkerView g.row.K-Sight.Denot g.row.K-Item.Denot g.row.K-Reply.Denot in
    omega (arith, c.in_ok-columns.ensures.as_many, length-map c.in_ok-columns.columns.items (λ (column : Vec W Global). column.items), c.len-places.ensures, c.args.phases.ok.0)

pub closed-requires-clause-all : goal.closed-requires-clause-all
closed-requires-clause-all g c κs within =
    let W = WorkerView g.row.K-Sight.Denot g.row.K-Item.Denot g.row.K-Reply.Denot in
    let T = TeamView g.row.K-Sight.Denot g.row.K-Item.Denot g.row.K-Reply.Denot in
    let workers : T → List W = λ team. team.workers in
    let row_in : Vec W Global → List W = λ row. row.items in
    let held = c.in_ok-teams.teams in
    let phases = c.args.phases.items in
    let after = c.run_several.new.teams in
    let whole : take held.len (after ++ drop (length after) held.items) ≡ after = take_at after (drop (length after) held.items) held.len (omega (arith, c.run_several.ensures.as_many, c.deref_mut.ensures.len, held.ok)) in
    let after_are : map row_in c.in_ok-after.after.items ≡ map workers after = c.in_ok-after.ensures ∙ ap (map workers) whole in
    let belong = subst (λ (p : List OpenPhase). All (λ (team : T). IsTeam p team.workers) after) c.deref.ensures.value c.run_several.ensures.belong in
    let turned = subst (λ (n : ℕ). IsTurned n (map workers after) (map row_in c.in_ok-columns.columns.items)) {x = c.len-places.result} {y = length phases} (c.len-places.ensures ∙ c.args.phases.ok.0)
    (subst (λ (rows : List (List W)). IsTurned c.len-places.result rows (map row_in c.in_ok-columns.columns.items)) after_are c.in_ok-columns.ensures) in
    let many : length c.args.rows.items ≡ length c.args.orders.now = omega (arith, c.requires.ready.as_many, length-map c.args.rows.items row_in, length-map c.args.orders.now (λ (order : Vec ℕ Global). order.items)) in
    let rows_are : map workers held.items ≡ map row_in c.args.rows.items = ap (map workers) c.in_ok-teams.ensures ∙ teamed_rows c.args.rows.items c.args.orders.now many in
    let teams : length (map (λ (order : Vec ℕ Global). order.items) c.args.orders.now) ≡ length after =
    omega (arith, c.requires.ready.as_many, ap length rows_are, length-map held.items workers, length-map c.args.rows.items row_in, ap length c.deref_mut.ensures.value, c.run_several.ensures.as_many) in
    all_belong workers row_in phases after c.in_ok-columns.columns.items belong c.run_several.ensures.idle turned
    (subst (λ (n : ℕ). All (λ (phase : OpenPhase). phase.words.seats ≡ n) phases) teams c.requires.ready.seats)

pub returns : goal.returns
returns g c goes work have =
    let F = g.row.K-Final.Denot in
    let W = WorkerView g.row.K-Sight.Denot g.row.K-Item.Denot g.row.K-Reply.Denot in
    let T = TeamView g.row.K-Sight.Denot g.row.K-Item.Denot g.row.K-Reply.Denot in
    let workers : T → List W = λ team. team.workers in
    let row_in : Vec W Global → List W = λ row. row.items in
    let held = c.in_ok-teams.teams in
    let phases = c.args.phases.items in
    let orders = map (λ (order : Vec ℕ Global). order.items) c.args.orders.now in
    let after = c.run_several.new.teams in
    let whole : take held.len (after ++ drop (length after) held.items) ≡ after = take_at after (drop (length after) held.items) held.len (omega (arith, c.run_several.ensures.as_many, c.deref_mut.ensures.len, held.ok)) in
    let after_are : map row_in c.in_ok-after.after.items ≡ map workers after = c.in_ok-after.ensures ∙ ap (map workers) whole in
    let turned = subst (λ (n : ℕ). IsTurned n (map workers after) (map row_in c.in_ok-columns.columns.items)) {x = c.len-places.result} {y = length phases} (c.len-places.ensures ∙ c.args.phases.ok.0)
    (subst (λ (rows : List (List W)). IsTurned c.len-places.result rows (map row_in c.in_ok-columns.columns.items)) after_are c.in_ok-columns.ensures) in
    let many : length c.args.rows.items ≡ length c.args.orders.now = omega (arith, c.requires.ready.as_many, length-map c.args.rows.items row_in, length-map c.args.orders.now (λ (order : Vec ℕ Global). order.items)) in
    let rows_are : map workers held.items ≡ map row_in c.args.rows.items = ap (map workers) c.in_ok-teams.ensures ∙ teamed_rows c.args.rows.items c.args.orders.now many in
    let ready = subst (λ (rows : List (List W)). AreReady (map (λ (phase : OpenPhase). phase.base) phases) phases rows orders) (sym rows_are) c.requires.ready in
    let waits = subst (HaveWork goes work) (sym rows_are) have in
    let finished = subst (λ (teams : List T). All (λ at. HaveFinished g.K.Kind.rests at.0.workers at.1.workers) (zip teams after)) c.deref_mut.ensures.value
    (λ k d within. (c.run_several.ensures.handled k d within).finished) in
    all_closed g.K.Kind.closes goes workers g.K.Kind.rests phases held.items after orders work (map row_in c.in_ok-columns.columns.items) c.in_ok-stores.stores.items
    (map (λ (finals : Vec (Vec F Global) Global). map (λ (list : Vec F Global). list.items) finals.items) c.in_ok-stores.told.items)
    ready waits (omega (arith, c.run_several.ensures.as_many, ap length c.deref_mut.ensures.value)) finished turned c.in_ok-stores.ensures
