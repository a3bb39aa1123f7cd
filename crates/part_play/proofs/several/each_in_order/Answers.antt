use Rattle.std.proofs.Common.{◌+◌, ◌∙◌, [], ◌∷◌, All, Bor, Global, List, Vec, ℕ, ap, ap₂, arith, length, length-append, map, rules, subst, sym, zip}
use Rattle.store_spec.proofs.Common.{All-nil, All-push, YieldsList-end, YieldsList-turn, length-map, length-zip, map_push}
use Rattle.std.proofs.lemmas.Iterator.{YieldsList-from_slice, YieldsList-from_zip}
use Rattle.part_play.proofs.Stages.{taken_there}
use Rattle.part_play.proofs.several.each_in_order.Goals as goal
use Rattle.phase_kind.proofs.Planned.{holds_at}
use Rattle.phase_kind.proofs.Trays.{zip_more}
use Rattle.phase_kind.specs.Team.{AreByPlace, AreInListOrder, GoesWithin}

pub loop-order-init : goal.loop-order-init
loop-order-init g c =
    let F = g.row.F.Denot in
    let Told : (Vec ℕ Global × Vec (Vec F Global) Global) × Vec F Global → Type 0 = λ at. AreInListOrder (λ p. p) at.0.0.items (map (λ (row : Vec F Global). row.items) at.0.1.items) at.1.items in
    record {
      as_many = ap length c.in_ok-told.ensures.items;
      in_order = All-nil Told;
    }

pub in_order-requires-clause-within : goal.in_order-requires-clause-within
in_order-requires-clause-within g c =
    let F = g.row.F.Denot in
    let orders = c.args.orders.now in
    let rows = c.args.rows.now in
    let at = length c.loop-order.yielded in
    let turn = YieldsList-turn (YieldsList-from_zip (YieldsList-from_slice orders (search rules)) (YieldsList-from_slice rows (search rules)))
    c.loop-order.yielded c.loop-order.order-iterator c.loop-order.yielded_by c.next.result c.next.new.self (c.in-Some.order, c.in-Some.row) c.in-Some.is c.next.ensures.steps in
    let there = taken_there orders rows at c.in-Some.order.now c.in-Some.row.now turn.0 turn.1 in
    subst (λ (order : List ℕ). GoesWithin (λ p. p) (length c.deref-in-loop-order.result.now) order) (sym c.deref.ensures.value)
    (subst (λ (row : List (Vec F Global)). GoesWithin (λ p. p) (length row) c.in-Some.order.now.items) (sym c.deref-in-loop-order.ensures.value)
    (holds_at (λ at. GoesWithin (λ p. p) (length at.1.items) at.0.items) (zip orders rows) at (c.in-Some.order.now, c.in-Some.row.now) c.requires.within there))

pub in_order-requires-clause-by_place : goal.in_order-requires-clause-by_place
in_order-requires-clause-by_place g c =
    let F = g.row.F.Denot in
    let orders = c.args.orders.now in
    let rows = c.args.rows.now in
    let at = length c.loop-order.yielded in
    let turn = YieldsList-turn (YieldsList-from_zip (YieldsList-from_slice orders (search rules)) (YieldsList-from_slice rows (search rules)))
    c.loop-order.yielded c.loop-order.order-iterator c.loop-order.yielded_by c.next.result c.next.new.self (c.in-Some.order, c.in-Some.row) c.in-Some.is c.next.ensures.steps in
    let there = taken_there orders rows at c.in-Some.order.now c.in-Some.row.now turn.0 turn.1 in
    subst (λ (order : List ℕ). AreByPlace (λ p. p) order (map (λ (r : Vec F Global). r.items) c.deref-in-loop-order.result.now)) (sym c.deref.ensures.value)
    (subst (λ (row : List (Vec F Global)). AreByPlace (λ p. p) c.in-Some.order.now.items (map (λ (r : Vec F Global). r.items) row)) (sym c.deref-in-loop-order.ensures.value)
    (holds_at (λ at. AreByPlace (λ p. p) at.0.items (map (λ (r : Vec F Global). r.items) at.1.items)) (zip orders rows) at (c.in-Some.order.now, c.in-Some.row.now) c.requires.by_place there))

pub loop-order-preserved : goal.loop-order-preserved
loop-order-preserved g c =
    let F = g.row.F.Denot in
    let L = Vec ℕ Global in
    let Y = Bor L × Bor (Vec (Vec F Global) Global) in
    let V = L × Vec (Vec F Global) Global in
    let Told : V × Vec F Global → Type 0 = λ at. AreInListOrder (λ p. p) at.0.0.items (map (λ (row : Vec F Global). row.items) at.0.1.items) at.1.items in
    let shown : Y → V = λ y. (y.0.now, y.1.now) in
    let i = c.loop-order.invariant in
    let yielded = c.loop-order.yielded in
    let told = c.loop-order.told.items in
    let y : Y = (c.in-Some.order, c.in-Some.row) in
    let reply = c.in_ok-in_order.field-0 in
    let pushed = c.in_ok-push.ensures.items in
    let both = ap₂ zip (map_push shown yielded y) pushed ∙ zip_more (map shown yielded) told (shown y) reply (i.as_many ∙ sym (length-map yielded shown)) in
    record {
      as_many = ap length pushed ∙ length-append told (reply ∷ []) ∙ ap (λ n. n + 1) i.as_many ∙ sym (length-append yielded (y ∷ []));
      in_order = subst (All Told) (sym both) (All-push Told (zip (map shown yielded) told) (shown y, reply) i.in_order
          (subst (λ (order : List ℕ). AreInListOrder (λ p. p) order (map (λ (r : Vec F Global). r.items) c.in-Some.row.now.items) reply.items) c.deref.ensures.value
          (subst (λ (row : List (Vec F Global)). AreInListOrder (λ p. p) c.deref.result.now (map (λ (r : Vec F Global). r.items) row) reply.items) c.deref-in-loop-order.ensures.value c.in_ok-in_order.ensures)));
    }

pub returns-clause-as_many : goal.returns-clause-as_many
returns-clause-as_many g c =
    let orders = c.args.orders.now in
    let rows = c.args.rows.now in
    let end = YieldsList-end (YieldsList-from_zip (YieldsList-from_slice orders (search rules)) (YieldsList-from_slice rows (search rules)))
    c.loop-order.yielded c.loop-order.order-iterator c.loop-order.yielded_by c.next.result c.next.new.self c.in-None.is c.next.ensures.steps in
    omega (arith, c.loop-order.invariant.as_many, end.1, length-zip orders rows, c.requires.as_many)

pub returns-clause-in_order : goal.returns-clause-in_order
returns-clause-in_order g c =
    let F = g.row.F.Denot in
    let V = Vec ℕ Global × Vec (Vec F Global) Global in
    let orders = c.args.orders.now in
    let rows = c.args.rows.now in
    let Told : V × Vec F Global → Type 0 = λ at. AreInListOrder (λ p. p) at.0.0.items (map (λ (row : Vec F Global). row.items) at.0.1.items) at.1.items in
    let end = YieldsList-end (YieldsList-from_zip (YieldsList-from_slice orders (search rules)) (YieldsList-from_slice rows (search rules)))
    c.loop-order.yielded c.loop-order.order-iterator c.loop-order.yielded_by c.next.result c.next.new.self c.in-None.is c.next.ensures.steps in
    subst (λ (l : List V). All Told (zip l c.loop-order.told.items)) end.0 c.loop-order.invariant.in_order
