use Rattle.std.proofs.Common.{◌≡◌, All, Global, List, Vec, ℕ, ap, arith, get_or, length, map, subst, sym}
use Rattle.store_spec.proofs.Common.{All-map, length-map, map-map, slice_get-get_or}
use Rattle.part_play.proofs.Stages.{shown_at}
use Rattle.part_play.proofs.Told.{all_by_place, all_told, all_within}
use Rattle.part_play.proofs.several.all_told.Goals as goal
use Rattle.part_play.specs.Several.{AreAllTold, AreByPlaces}
use Rattle.phase_kind.specs.Table.{IsTurned}
use Rattle.phase_kind.specs.Team.{GoesWithin, those_of}

pub turned-requires : goal.turned-requires
turned-requires g c k d below =
    let F = g.row.F.Denot in
    let order_in : Vec ℕ Global → List ℕ = λ order. order.items in
    let T = Vec (Vec F Global) Global in
    let list_of : Vec F Global → List F = λ list. list.items in
    let finals_in : T → List (List F) = λ finals. map list_of finals.items in
    let told = c.args.told.items in
    let finals = get_or told k d in
    let those = map (those_of (λ p. p) k) (map order_in c.args.orders.now) in
    let lengths = c.requires.by_places k (finals_in finals) (shown_at finals_in told k finals (slice_get-get_or told k d below)) in
    omega (arith, ap length lengths, length-map (finals_in finals) (λ (l : List F). length l), length-map finals.items list_of, length-map those (λ (l : List ℕ). length l), length-map (map order_in c.args.orders.now) (those_of (λ p. p) k), length-map c.args.orders.now order_in)

pub each_in_order-requires-clause-as_many : goal.each_in_order-requires-clause-as_many
each_in_order-requires-clause-as_many g c =
    let F = g.row.F.Denot in
    let order_in : Vec ℕ Global → List ℕ = λ order. order.items in
    omega (arith, ap length c.deref.ensures.value, c.in_ok-rows.ensures.as_many, length-map c.in_ok-rows.rows.items (λ (row : Vec (Vec F Global) Global). row.items))

pub each_in_order-requires-clause-within : goal.each_in_order-requires-clause-within
each_in_order-requires-clause-within g c =
    let F = g.row.F.Denot in
    let order_in : Vec ℕ Global → List ℕ = λ order. order.items in
    let T = Vec (Vec F Global) Global in
    let list_of : Vec F Global → List F = λ list. list.items in
    let entries : T → List (Vec F Global) = λ finals. finals.items in
    let orders = c.args.orders.now in
    let told = map entries c.args.told.items in
    let turned = subst (λ (rows : List T). IsTurned (length orders) told (map entries rows)) (sym c.deref.ensures.value) c.in_ok-rows.ensures in
    all_within (λ p. p) order_in list_of entries orders told c.deref.result.now turned
    (subst (λ (n : ℕ). All (λ list. GoesWithin (λ p. p) n list.items) orders) (sym (length-map c.args.told.items entries)) c.requires.within)

pub each_in_order-requires-clause-by_place : goal.each_in_order-requires-clause-by_place
each_in_order-requires-clause-by_place g c =
    let F = g.row.F.Denot in
    let order_in : Vec ℕ Global → List ℕ = λ order. order.items in
    let T = Vec (Vec F Global) Global in
    let list_of : Vec F Global → List F = λ list. list.items in
    let entries : T → List (Vec F Global) = λ finals. finals.items in
    let orders = c.args.orders.now in
    let told = map entries c.args.told.items in
    let turned = subst (λ (rows : List T). IsTurned (length orders) told (map entries rows)) (sym c.deref.ensures.value) c.in_ok-rows.ensures in
    all_by_place (λ p. p) order_in list_of entries orders told c.deref.result.now turned
    (subst (AreByPlaces (λ p. p) (map order_in orders)) (sym (map-map (map list_of) entries c.args.told.items)) c.requires.by_places)

pub returns : goal.returns
returns g c =
    let F = g.row.F.Denot in
    let order_in : Vec ℕ Global → List ℕ = λ order. order.items in
    let T = Vec (Vec F Global) Global in
    let list_of : Vec F Global → List F = λ list. list.items in
    let entries : T → List (Vec F Global) = λ finals. finals.items in
    let finals_in : T → List (List F) = λ finals. map list_of finals.items in
    let orders = c.args.orders.now in
    let told = map entries c.args.told.items in
    let turned = subst (λ (rows : List T). IsTurned (length orders) told (map entries rows)) (sym c.deref.ensures.value) c.in_ok-rows.ensures in
    let long : All (λ (row : List (Vec F Global)). length row ≡ length orders) told = All-map (λ (row : List (Vec F Global)). length row ≡ length orders) entries c.args.told.items (λ k d below.
    let finals = get_or c.args.told.items k d in
    let those = map (those_of (λ p. p) k) (map order_in orders) in
    let lengths = c.requires.by_places k (finals_in finals) (shown_at finals_in c.args.told.items k finals (slice_get-get_or c.args.told.items k d below)) in
    omega (arith, ap length lengths, length-map (finals_in finals) (λ (l : List F). length l), length-map finals.items list_of, length-map those (λ (l : List ℕ). length l), length-map (map order_in orders) (those_of (λ p. p) k), length-map orders order_in)) in
    subst (λ (t : List (List (List F))). AreAllTold (λ p. p) (map order_in orders) t (map list_of c.in_ok-replies.replies.items)) (map-map (map list_of) entries c.args.told.items)
    (all_told (λ p. p) order_in list_of entries orders told c.deref.result.now turned c.in_ok-replies.replies.items c.in_ok-replies.ensures.as_many c.in_ok-replies.ensures.in_order long)
