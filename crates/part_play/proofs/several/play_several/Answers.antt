use Rattle.std.proofs.Common.{◌≡◌, All, Global, List, Vec, ℕ, ap, arith, length, map, subst, sym}
use Rattle.store_spec.proofs.Common.{All-map, length-map}
use Rattle.body_store.specs.Contents.{Contents}
use Rattle.part_play.proofs.Told.{by_places, by_places_named, has_played, told_named, within_named}
use Rattle.part_play.proofs.several.play_several.Goals as goal
use Rattle.part_play.specs.Several.{AreAllTold, AreByPlaces, AreReady, HasPlayed}
use Rattle.phase_kind.specs.Phase.{OpenPhase}
use Rattle.phase_kind.specs.Team.{GoesWithin}
use Rattle.phase_kind.specs.Worker.{WorkerView}
use Rattle.step_core.proofs.Sets.{All-from_map}

abbrev base_of : OpenPhase → Contents
base_of phase = phase.base

pub handled-requires-clause-ready : goal.handled-requires-clause-ready
handled-requires-clause-ready g c κs within =
    let W = WorkerView g.row.K-Sight.Denot g.row.K-Item.Denot g.row.K-Reply.Denot in
    let ready = c.in_ok-phases.ensures.ready in
    let teams = map (λ (team : Vec W Global). team.items) c.in_ok-phases.teams.items in
    subst (λ (orders : List (Vec ℕ Global)). AreReady (map base_of c.in_ok-phases.phases.items) c.in_ok-phases.phases.items teams (map (λ (order : Vec ℕ Global). order.items) orders)) (sym c.deref.ensures.value)
    (subst (λ (stores : List Contents). AreReady stores c.in_ok-phases.phases.items teams (map (λ (order : Vec ℕ Global). order.items) c.in_ok-phases.orders.items)) (sym ready.bases) ready)

pub all_told-requires-clause-within : goal.all_told-requires-clause-within
all_told-requires-clause-within g c =
    let goes : g.row.K-Item.Denot → ℕ = λ x. g.S.Spread.to c.args.spread.now (g.K.Kind.number x) in
    let F = g.row.K-Final.Denot in
    let work = map g.K.Kind.items c.args.work.items in
    let closed = c.in_ok-after.ensures goes work c.in_ok-phases.ensures.work in
    let places = length c.in_ok-after.told.items in
    let many : length c.args.stores.items ≡ places = omega (arith, closed.as_many, length-map c.in_ok-after.told.items (λ (finals : Vec (Vec F Global) Global). map (λ (list : Vec F Global). list.items) finals.items), ap length c.in_ok-phases.ensures.ready.bases) in
    let named = within_named goes places work (subst (λ (n : ℕ). All (GoesWithin goes n) work) many (All-map (GoesWithin goes (length c.args.stores.items)) g.K.Kind.items c.args.work.items c.requires.within)) in
    subst (λ (orders : List (Vec ℕ Global)). All (λ order. GoesWithin (λ p. p) places order.items) orders) (sym c.deref-2.ensures.value)
    (All-from_map (GoesWithin (λ p. p) places) (λ (order : Vec ℕ Global). order.items) c.in_ok-phases.orders.items (subst (All (GoesWithin (λ p. p) places)) (sym c.in_ok-phases.ensures.orders) named))

pub all_told-requires-clause-by_places : goal.all_told-requires-clause-by_places
all_told-requires-clause-by_places g c =
    let goes : g.row.K-Item.Denot → ℕ = λ x. g.S.Spread.to c.args.spread.now (g.K.Kind.number x) in
    let F = g.row.K-Final.Denot in
    let work = map g.K.Kind.items c.args.work.items in
    let told = map (λ (finals : Vec (Vec F Global) Global). map (λ (list : Vec F Global). list.items) finals.items) c.in_ok-after.told.items in
    let closed = c.in_ok-after.ensures goes work c.in_ok-phases.ensures.work in
    let named = by_places_named goes work told (by_places g.K.Kind.closes goes (map base_of c.in_ok-phases.phases.items) work c.in_ok-after.after.items told closed c.requires.finals) in
    subst (λ (orders : List (Vec ℕ Global)). AreByPlaces (λ p. p) (map (λ (order : Vec ℕ Global). order.items) orders) told) (sym c.deref-2.ensures.value)
    (subst (λ (orders : List (List ℕ)). AreByPlaces (λ p. p) orders told) (sym c.in_ok-phases.ensures.orders) named)

pub returns : goal.returns
returns g c =
    let goes : g.row.K-Item.Denot → ℕ = λ x. g.S.Spread.to c.args.spread.now (g.K.Kind.number x) in
    let F = g.row.K-Final.Denot in
    let work = map g.K.Kind.items c.args.work.items in
    let told = map (λ (finals : Vec (Vec F Global) Global). map (λ (list : Vec F Global). list.items) finals.items) c.in_ok-after.told.items in
    let replies = map (λ (list : Vec F Global). list.items) c.in_ok-replies.replies.items in
    let closed = c.in_ok-after.ensures goes work c.in_ok-phases.ensures.work in
    let all = subst (λ (orders : List (List ℕ)). AreAllTold (λ p. p) orders told replies) c.in_ok-phases.ensures.orders
    (subst (λ (orders : List (Vec ℕ Global)). AreAllTold (λ p. p) (map (λ (order : Vec ℕ Global). order.items) orders) told replies) c.deref-2.ensures.value c.in_ok-replies.ensures) in
    subst (λ (before : List Contents). HasPlayed g.K.Kind.closes goes before work c.in_ok-after.after.items replies) c.in_ok-phases.ensures.ready.bases
    (has_played g.K.Kind.closes goes (map base_of c.in_ok-phases.phases.items) work c.in_ok-after.after.items told closed replies (told_named goes work told replies all))
