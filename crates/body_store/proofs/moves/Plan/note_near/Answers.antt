use Rattle.std.proofs.Common.{◌≡◌, ◌++◌, [], ◌∷◌, List, get_or, inl, inr, refl, sym, ◌∙◌, subst}
use Rattle.store_spec.proofs.Common.{home_of}
use Rattle.body_store.proofs.CellPlaces.{stands_once}
use Rattle.body_store.proofs.Planning.{noted_far, noted_moved, right_far, right_moved, same_right}
use Rattle.layout_def.proofs.Keyed.{among_pushed}
use Rattle.body_store.specs.Moves.{AwaitsCell, IsMoved, IsNear, WaitsIn}
use Rattle.body_store.specs.declared.moves.Move.{Move}
use Rattle.body_store.specs.declared.moves.Waiting.{Waiting}
use Rattle.layout_def.proofs.OrderedCells.{contains_from_place, place_within}
use Rattle.body_store.proofs.moves.Plan.note_near.Goals as goal

pub returns-in_ok-push-in-At-clause-right : goal.returns-in_ok-push-in-At-clause-right
returns-in_ok-push-in-At-clause-right c f front waits right =
    let was = c.args.self.now in
    let found = subst (IsNear c.args.cells.now c.args.number) c.in-At.is c.requires.near in
    let move : Move = record { from = c.args.from; cell = c.in-At.cell } in
    same_right f c.args.cells.now front was.bytes.items was.bytes.items _ _ was.far.items was.far.items
    (right_moved f c.args.cells.now front was.bytes.items was.moves.items was.far.items move right found.0
    (subst (λ v. WaitsIn f front was.bytes.items c.args.from v) (sym found.1) waits))
    refl c.in_ok-push-in-At.ensures.items refl

pub returns-in_ok-push-in-At-clause-sought : goal.returns-in_ok-push-in-At-clause-sought
returns-in_ok-push-in-At-clause-sought c cell same =
    let was = c.args.self.now in
    let cells = c.args.cells.now in
    let move : Move = record { from = c.args.from; cell = c.in-At.cell } in
    let found = subst (IsNear c.args.cells.now c.args.number) c.in-At.is c.requires.near in
    let here : c.in-At.cell ≡ cell = stands_once (home_of c.args.order.now.bits c.args.order.now.salt) cells c.in-At.cell cell c.requires.ordered
    (λ z. c.requires.some (sym found.1 ∙ z)) (found.1 ∙ sym same) in
    inl (subst (λ (moves : List Move). IsMoved moves cell) (sym c.in_ok-push-in-At.ensures.items)
    (subst (λ k. IsMoved (was.moves.items ++ move ∷ []) k) here (among_pushed (λ (move : Move). move.cell) was.moves.items move)))

pub returns-in_ok-push-in-At-clause-still : goal.returns-in_ok-push-in-At-clause-still
returns-in_ok-push-in-At-clause-still c cell =
    let was = c.args.self.now in
    noted_moved c.args.cells.now was.moves.items _ was.far.items was.far.items (record { from = c.args.from; cell = c.in-At.cell }) cell
    c.in_ok-push-in-At.ensures.items refl

pub returns-in-Nowhere-clause-sought : goal.returns-in-Nowhere-clause-sought
returns-in-Nowhere-clause-sought c cell same =
    let cells = c.args.cells.now in
    absurd (subst (IsNear c.args.cells.now c.args.number) c.in-Nowhere.is c.requires.near (contains_from_place cells c.args.number cell
    (place_within cells cell (λ z. c.requires.some (sym same ∙ z))) same))

pub returns-in_ok-push-in-Far-clause-right : goal.returns-in_ok-push-in-Far-clause-right
returns-in_ok-push-in-Far-clause-right c f front waits right =
    let was = c.args.self.now in
    let one : Waiting = record { number = c.args.number; from = c.args.from } in
    same_right f c.args.cells.now front was.bytes.items was.bytes.items was.moves.items was.moves.items _ _
    (right_far f c.args.cells.now front was.bytes.items was.moves.items was.far.items one right waits)
    refl refl c.in_ok-push-in-Far.ensures.items

pub returns-in_ok-push-in-Far-clause-sought : goal.returns-in_ok-push-in-Far-clause-sought
returns-in_ok-push-in-Far-clause-sought c cell same =
    let was = c.args.self.now in
    let cells = c.args.cells.now in
    let one : Waiting = record { number = c.args.number; from = c.args.from } in
    inr (subst (λ (far : List Waiting). AwaitsCell far (get_or cells cell 0)) (sym c.in_ok-push-in-Far.ensures.items)
    (subst (λ v. AwaitsCell (was.far.items ++ one ∷ []) v) (sym same) (among_pushed (λ (one : Waiting). one.number) was.far.items one)))

pub returns-in_ok-push-in-Far-clause-still : goal.returns-in_ok-push-in-Far-clause-still
returns-in_ok-push-in-Far-clause-still c cell =
    let was = c.args.self.now in
    noted_far c.args.cells.now was.moves.items was.moves.items was.far.items _ (record { number = c.args.number; from = c.args.from }) cell
    refl c.in_ok-push-in-Far.ensures.items
