use Rattle.std.proofs.Common.{◌≡◌, ◌∙◌, All, Global, List, Vec, ℕ, arith, length, map, refl, subst, sym, zip}
use Rattle.store_spec.proofs.Common.{All-map, length-map}
use Rattle.body_store.specs.Contents.{Contents}
use Rattle.part_play.proofs.Ready.{all, lists_long, orders_long, planned, plans_long, shared_long, turned}
use Rattle.part_play.proofs.Stages.{are_ready, have_work, rows_long, turned_beside}
use Rattle.part_play.proofs.several.ready.Goals as goal
use Rattle.phase_kind.specs.Table.{IsTurned}
use Rattle.phase_kind.specs.Team.{GoesWithin}
use Rattle.phase_kind.specs.Worker.{WorkerView}
use Rattle.step_core.proofs.Sets.{All-from_map}

pub all_shared-requires-clause-within : goal.all_shared-requires-clause-within
all_shared-requires-clause-within g c κs within =
    let goes : g.row.K-Item.Denot → ℕ = λ x. g.S.Spread.to c.args.spread.now (g.K.Kind.number x) in
    subst (λ (s : List Contents). All (λ list. GoesWithin goes (length s) (g.K.Kind.items list)) c.args.work.items) (sym c.deref.ensures.value) c.requires.within

pub all_shared-requires-clause-is_of : goal.all_shared-requires-clause-is_of
all_shared-requires-clause-is_of g c κs within =
    subst (λ (s : List Contents). All (λ list. All (λ store. g.K.Kind.is_of store list) s) c.args.work.items) (sym c.deref.ensures.value) c.requires.is_of

pub turned-requires : goal.turned-requires
turned-requires g c k d below =
    let goes : g.row.K-Item.Denot → ℕ = λ x. g.S.Spread.to c.args.spread.now (g.K.Kind.number x) in
    let entries : Vec g.row.K-List.Denot Global → List g.row.K-List.Denot = λ row. row.items in
    let orders = map (λ (order : Vec ℕ Global). order.items) c.in_ok-shared.orders.items in
    omega (arith, shared_long goes g.K.Kind.items entries c.args.stores.items c.deref.result.now c.deref.ensures.value c.args.work.items c.in_ok-shared.shared.items orders c.in_ok-shared.ensures.shared k d below, c.len.ensures, c.args.stores.ok.0)

pub begun-requires-clause-as_many : goal.begun-requires-clause-as_many
begun-requires-clause-as_many g c κs within =
    omega (arith, c.in_ok-lists.ensures.as_many, length-map c.in_ok-lists.lists.items (λ (row : Vec g.row.K-List.Denot Global). row.items), c.len.ensures, c.args.stores.ok.0)

pub begun-requires-clause-some : goal.begun-requires-clause-some
begun-requires-clause-some g c κs within k d below =
    let goes : g.row.K-Item.Denot → ℕ = λ x. g.S.Spread.to c.args.spread.now (g.K.Kind.number x) in
    let entries : Vec g.row.K-List.Denot Global → List g.row.K-List.Denot = λ row. row.items in
    let orders = map (λ (order : Vec ℕ Global). order.items) c.in_ok-shared.orders.items in
    omega (arith, lists_long goes g.K.Kind.items entries c.args.stores.items c.deref.result.now c.deref.ensures.value c.args.work.items c.in_ok-shared.shared.items orders c.in_ok-shared.ensures.shared c.len.result (c.len.ensures ∙ c.args.stores.ok.0) c.in_ok-lists.lists.items c.in_ok-lists.ensures k d below, c.requires.some_list)

pub begun-requires-clause-few : goal.begun-requires-clause-few
begun-requires-clause-few g c κs within k d below =
    let goes : g.row.K-Item.Denot → ℕ = λ x. g.S.Spread.to c.args.spread.now (g.K.Kind.number x) in
    let entries : Vec g.row.K-List.Denot Global → List g.row.K-List.Denot = λ row. row.items in
    let orders = map (λ (order : Vec ℕ Global). order.items) c.in_ok-shared.orders.items in
    omega (arith, lists_long goes g.K.Kind.items entries c.args.stores.items c.deref.result.now c.deref.ensures.value c.args.work.items c.in_ok-shared.shared.items orders c.in_ok-shared.ensures.shared c.len.result (c.len.ensures ∙ c.args.stores.ok.0) c.in_ok-lists.lists.items c.in_ok-lists.ensures k d below, c.requires.few_lists)

pub begun-requires-clause-is_of : goal.begun-requires-clause-is_of
begun-requires-clause-is_of g c κs within =
    let goes : g.row.K-Item.Denot → ℕ = λ x. g.S.Spread.to c.args.spread.now (g.K.Kind.number x) in
    let entries : Vec g.row.K-List.Denot Global → List g.row.K-List.Denot = λ row. row.items in
    let orders = map (λ (order : Vec ℕ Global). order.items) c.in_ok-shared.orders.items in
    turned_beside g.K.Kind.is_of entries entries (length c.args.stores.items) c.args.stores.items c.in_ok-shared.shared.items c.in_ok-lists.lists.items (turned goes g.K.Kind.items entries c.args.stores.items c.deref.result.now c.deref.ensures.value c.args.work.items c.in_ok-shared.shared.items orders c.in_ok-shared.ensures.shared c.len.result (c.len.ensures ∙ c.args.stores.ok.0) c.in_ok-lists.lists.items c.in_ok-lists.ensures)
    (subst (λ (s : List Contents). All (λ (row : Vec g.row.K-List.Denot Global). All (λ at. g.K.Kind.is_of at.0 at.1) (zip s row.items)) c.in_ok-shared.shared.items) c.deref.ensures.value c.in_ok-shared.ensures.is_of)

pub turned-requires-2 : goal.turned-requires-2
turned-requires-2 g c k d below =
    let goes : g.row.K-Item.Denot → ℕ = λ x. g.S.Spread.to c.args.spread.now (g.K.Kind.number x) in
    let entries : Vec g.row.K-List.Denot Global → List g.row.K-List.Denot = λ row. row.items in
    let orders = map (λ (order : Vec ℕ Global). order.items) c.in_ok-shared.orders.items in
    let workers : Vec (WorkerView g.row.K-Sight.Denot g.row.K-Item.Denot g.row.K-Reply.Denot) Global → List (WorkerView g.row.K-Sight.Denot g.row.K-Item.Denot g.row.K-Reply.Denot) = λ row. row.items in
    let lists_in : Vec g.row.K-List.Denot Global → List (List g.row.K-Item.Denot) = λ row. map g.K.Kind.items row.items in
    let rows = All-from_map (λ (row : List (WorkerView g.row.K-Sight.Denot g.row.K-Item.Denot g.row.K-Reply.Denot)). length row ≡ length c.args.work.items) workers c.in_ok-phases.rows.items
    (rows_long g.K.Kind.fresh c.args.stores.items (map lists_in c.in_ok-lists.lists.items) c.in_ok-phases.phases.items (map workers c.in_ok-phases.rows.items) (length c.args.work.items) c.in_ok-phases.ensures (plans_long goes g.K.Kind.items entries c.args.stores.items c.deref.result.now c.deref.ensures.value c.args.work.items c.in_ok-shared.shared.items orders c.in_ok-shared.ensures.shared c.len.result (c.len.ensures ∙ c.args.stores.ok.0) c.in_ok-lists.lists.items c.in_ok-lists.ensures)) in
    omega (arith, rows k d below, c.len-2.ensures, c.in_ok-shared.orders.ok.0, orders_long goes g.K.Kind.items entries c.args.stores.items c.deref.result.now c.deref.ensures.value c.args.work.items c.in_ok-shared.shared.items orders c.in_ok-shared.ensures.shared, length-map c.in_ok-shared.orders.items (λ (order : Vec ℕ Global). order.items))

pub returns-clause-ready : goal.returns-clause-ready
returns-clause-ready g c =
    let goes : g.row.K-Item.Denot → ℕ = λ x. g.S.Spread.to c.args.spread.now (g.K.Kind.number x) in
    let entries : Vec g.row.K-List.Denot Global → List g.row.K-List.Denot = λ row. row.items in
    let orders = map (λ (order : Vec ℕ Global). order.items) c.in_ok-shared.orders.items in
    let workers : Vec (WorkerView g.row.K-Sight.Denot g.row.K-Item.Denot g.row.K-Reply.Denot) Global → List (WorkerView g.row.K-Sight.Denot g.row.K-Item.Denot g.row.K-Reply.Denot) = λ row. row.items in
    let lists_in : Vec g.row.K-List.Denot Global → List (List g.row.K-Item.Denot) = λ row. map g.K.Kind.items row.items in
    let teams = subst (λ (n : ℕ). IsTurned n (map workers c.in_ok-phases.rows.items) (map workers c.in_ok-teams.teams.items)) {x = c.len-2.result} {y = length (map g.K.Kind.items c.args.work.items)}
    (omega (arith, c.len-2.ensures, c.in_ok-shared.orders.ok.0, orders_long goes g.K.Kind.items entries c.args.stores.items c.deref.result.now c.deref.ensures.value c.args.work.items c.in_ok-shared.shared.items orders c.in_ok-shared.ensures.shared, length-map c.in_ok-shared.orders.items (λ (order : Vec ℕ Global). order.items), length-map c.args.work.items g.K.Kind.items)) c.in_ok-teams.ensures in
    are_ready workers goes g.K.Kind.fresh (length c.args.stores.items) c.args.stores.items (map lists_in c.in_ok-shared.shared.items) (map lists_in c.in_ok-lists.lists.items) orders c.in_ok-phases.phases.items (map workers c.in_ok-phases.rows.items) c.in_ok-teams.teams.items (map g.K.Kind.items c.args.work.items)
    (all goes g.K.Kind.items entries c.args.stores.items c.deref.result.now c.deref.ensures.value c.args.work.items c.in_ok-shared.shared.items orders c.in_ok-shared.ensures.shared) (planned goes g.K.Kind.items entries c.args.stores.items c.deref.result.now c.deref.ensures.value c.args.work.items c.in_ok-shared.shared.items orders c.in_ok-shared.ensures.shared c.len.result (c.len.ensures ∙ c.args.stores.ok.0) c.in_ok-lists.lists.items c.in_ok-lists.ensures) c.in_ok-phases.ensures teams refl (All-map (GoesWithin goes (length c.args.stores.items)) g.K.Kind.items c.args.work.items c.requires.within)

pub returns-clause-work : goal.returns-clause-work
returns-clause-work g c =
    let goes : g.row.K-Item.Denot → ℕ = λ x. g.S.Spread.to c.args.spread.now (g.K.Kind.number x) in
    let entries : Vec g.row.K-List.Denot Global → List g.row.K-List.Denot = λ row. row.items in
    let orders = map (λ (order : Vec ℕ Global). order.items) c.in_ok-shared.orders.items in
    let workers : Vec (WorkerView g.row.K-Sight.Denot g.row.K-Item.Denot g.row.K-Reply.Denot) Global → List (WorkerView g.row.K-Sight.Denot g.row.K-Item.Denot g.row.K-Reply.Denot) = λ row. row.items in
    let lists_in : Vec g.row.K-List.Denot Global → List (List g.row.K-Item.Denot) = λ row. map g.K.Kind.items row.items in
    let teams = subst (λ (n : ℕ). IsTurned n (map workers c.in_ok-phases.rows.items) (map workers c.in_ok-teams.teams.items)) {x = c.len-2.result} {y = length (map g.K.Kind.items c.args.work.items)}
    (omega (arith, c.len-2.ensures, c.in_ok-shared.orders.ok.0, orders_long goes g.K.Kind.items entries c.args.stores.items c.deref.result.now c.deref.ensures.value c.args.work.items c.in_ok-shared.shared.items orders c.in_ok-shared.ensures.shared, length-map c.in_ok-shared.orders.items (λ (order : Vec ℕ Global). order.items), length-map c.args.work.items g.K.Kind.items)) c.in_ok-teams.ensures in
    have_work workers goes g.K.Kind.fresh (length c.args.stores.items) c.args.stores.items (map lists_in c.in_ok-shared.shared.items) (map lists_in c.in_ok-lists.lists.items) orders c.in_ok-phases.phases.items (map workers c.in_ok-phases.rows.items) c.in_ok-teams.teams.items (map g.K.Kind.items c.args.work.items)
    (all goes g.K.Kind.items entries c.args.stores.items c.deref.result.now c.deref.ensures.value c.args.work.items c.in_ok-shared.shared.items orders c.in_ok-shared.ensures.shared) (planned goes g.K.Kind.items entries c.args.stores.items c.deref.result.now c.deref.ensures.value c.args.work.items c.in_ok-shared.shared.items orders c.in_ok-shared.ensures.shared c.len.result (c.len.ensures ∙ c.args.stores.ok.0) c.in_ok-lists.lists.items c.in_ok-lists.ensures) c.in_ok-phases.ensures teams

pub returns-clause-orders : goal.returns-clause-orders
returns-clause-orders g c =
    let goes : g.row.K-Item.Denot → ℕ = λ x. g.S.Spread.to c.args.spread.now (g.K.Kind.number x) in
    let entries : Vec g.row.K-List.Denot Global → List g.row.K-List.Denot = λ row. row.items in
    let orders = map (λ (order : Vec ℕ Global). order.items) c.in_ok-shared.orders.items in
    (all goes g.K.Kind.items entries c.args.stores.items c.deref.result.now c.deref.ensures.value c.args.work.items c.in_ok-shared.shared.items orders c.in_ok-shared.ensures.shared).orders_are
