use Rattle.std.proofs.Common.{◌≡◌, ◌∙◌, ◌++◌, [], ◌∷◌, Global, Vec, length, map, rules, subst, sym}
use Rattle.store_spec.proofs.Common.{YieldsList-end, YieldsList-from_vec, YieldsList-turn, length-map, map-id, map_push}
use Rattle.phase_kind.proofs.Columns.{turned_more, turned_none}
use Rattle.phase_kind.proofs.table.turned.Goals as goal
use Rattle.phase_kind.specs.Table.{IsTurned, grown}

pub loop-row-init : goal.loop-row-init
loop-row-init g c = turned_none (λ column. column.items) c.args.places c.in_ok-columns.columns.items c.in_ok-columns.ensures.as_many c.in_ok-columns.ensures.empty

pub deal-requires : goal.deal-requires
deal-requires g c =
    let V = Vec g.row.X.Denot Global in
    let rows = c.args.rows.items in
    let turn = YieldsList-turn (YieldsList-from_vec rows (search rules) (search rules)) c.loop-row.yielded c.loop-row.row-iterator c.loop-row.yielded_by c.next.result c.next.new.self c.in-Some.row c.in-Some.is c.next.ensures.steps in
    subst (λ (row : V). length row.items ≡ c.args.places) (sym turn.1) (c.requires (length c.loop-row.yielded) c.in-Some.row turn.0)
    ∙ sym (sym (length-map c.loop-row.columns.items (λ column. column.items)) ∙ c.loop-row.invariant.as_many)

pub loop-row-preserved : goal.loop-row-preserved
loop-row-preserved g c =
    let V = Vec g.row.X.Denot Global in
    let places = c.args.places in
    let rows = c.args.rows.items in
    let columns = map (λ (column : V). column.items) c.loop-row.columns.items in
    let before = map (λ (row : V). row.items) c.loop-row.yielded in
    let row = c.in-Some.row in
    let turn = YieldsList-turn (YieldsList-from_vec rows (search rules) (search rules)) c.loop-row.yielded c.loop-row.row-iterator c.loop-row.yielded_by c.next.result c.next.new.self row c.in-Some.is c.next.ensures.steps in
    let same = subst (λ (row : V). length row.items ≡ places) (sym turn.1) (c.requires (length c.loop-row.yielded) row turn.0) in
    subst (IsTurned places (map (λ (row : V). row.items) (c.loop-row.yielded ++ row ∷ []))) (sym c.in_ok-deal.ensures)
    (subst (λ rows. IsTurned places rows (grown columns row.items)) (sym (map_push (λ (row : V). row.items) c.loop-row.yielded row))
    (turned_more places before columns row.items c.loop-row.invariant same))

pub returns : goal.returns
returns g c =
    let V = Vec g.row.X.Denot Global in
    let rows = c.args.rows.items in
    let end = YieldsList-end (YieldsList-from_vec rows (search rules) (search rules)) c.loop-row.yielded c.loop-row.row-iterator c.loop-row.yielded_by c.next.result c.next.new.self c.in-None.is c.next.ensures.steps in
    subst (λ rows. IsTurned c.args.places (map (λ (row : V). row.items) rows) (map (λ (column : V). column.items) c.loop-row.columns.items)) (sym (map-id c.loop-row.yielded) ∙ end.0) c.loop-row.invariant
