use Rattle.std.proofs.Common.{sym, subst, ◌∙◌}
use Rattle.body_store.proofs.moves.Plan.add.Goals as goal
use Rattle.layout_def.proofs.OrderedCells.{contains_from_place, place_within}
use Rattle.body_store.proofs.Planning.{right_still, waits_behind}
use Rattle.body_store.specs.Moves.{AreRight, IsNear, WaitsIn}

pub returns-clause-right : goal.returns-clause-right
returns-clause-right c f new long same right =
    let was = c.args.self.now in
    let bytes = was.bytes.items in
    let put = c.in_ok-extend_from_slice.ensures.items in
    c.in_ok-note_near.ensures.right f new
    (subst (λ bytes. WaitsIn f new bytes c.args.place c.args.number) (sym put)
    (waits_behind f new bytes c.args.bytes.now c.args.place c.args.number long same))
    (subst (λ bytes. AreRight f c.args.cells.now new bytes was.moves.items was.far.items) (sym put)
    (right_still f c.args.cells.now new bytes c.args.bytes.now was.moves.items was.far.items right))

-- a number that stands in no cell needs none
pub returns-in-Nowhere-clause-sought : goal.returns-in-Nowhere-clause-sought
returns-in-Nowhere-clause-sought c cell same =
    let cells = c.args.cells.now in
    absurd (subst (IsNear cells c.args.number) c.in-Nowhere.is c.find_near-near.ensures
    (contains_from_place cells c.args.number cell (place_within cells cell (λ z. c.requires.some (sym same ∙ z))) same))
