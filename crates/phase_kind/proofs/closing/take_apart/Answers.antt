use Rattle.std.proofs.Common.{◌≡◌, ◌++◌, [], ◌∷◌, All, List, ap, length, map, ◌∙◌, subst, sym}
use Rattle.store_spec.proofs.Common.{All-push, map_push}
use Rattle.phase_kind.proofs.closing.take_apart.Goals as goal
use Rattle.phase_kind.specs.AnsweredItem.{AnsweredItem, answered_items}
use Rattle.phase_kind.specs.declared.tray.Tray.{Tray}
use Rattle.word_rule.specs.Places.{Place}

pub returns-clause-seats : goal.returns-clause-seats
returns-clause-seats g c =
    let k = g.K.Kind in
    let seats = c.args.seats.now.items in
    ap (map k.standing) c.in_ok-push.ensures.items
    ∙ map_push k.standing seats c.into_parts-seat.result.0
    ∙ ap (λ (s : Place g.row.K-Sight.Denot). map k.standing seats ++ s ∷ []) c.into_parts-seat.ensures.seat

pub returns-clause-trays : goal.returns-clause-trays
returns-clause-trays g c =
    let k = g.K.Kind in
    let trays = c.args.trays.now.items in
    let told : Tray g.row.K-List.Denot g.row.K-Reply.Denot → List (AnsweredItem g.row.K-Item.Denot g.row.K-Reply.Denot) = λ t. answered_items (k.items t.items) t.replies.items in
    ap (map told) c.in_ok-push-2.ensures.items
    ∙ map_push told trays c.into_parts-seat.result.1
    ∙ ap (λ (t : List (AnsweredItem g.row.K-Item.Denot g.row.K-Reply.Denot)). map told trays ++ t ∷ []) c.into_parts-seat.ensures.tray

pub returns-clause-is_of : goal.returns-clause-is_of
returns-clause-is_of g c before =
    let Of : Tray g.row.K-List.Denot g.row.K-Reply.Denot → Type 0 = λ t. g.K.Kind.is_of c.args.worker.phase.base t.items in
    subst (All Of) (sym c.in_ok-push-2.ensures.items) (All-push Of c.args.trays.now.items c.into_parts-seat.result.1 before c.into_parts-seat.ensures.is_of)

pub returns-clause-paired : goal.returns-clause-paired
returns-clause-paired g c =
    let Paired : Tray g.row.K-List.Denot g.row.K-Reply.Denot → Type 0 = λ t. length (g.K.Kind.items t.items) ≡ length t.replies.items in
    subst (All Paired) (sym c.in_ok-push-2.ensures.items) (All-push Paired c.args.trays.now.items c.into_parts-seat.result.1 c.requires.paired c.into_parts-seat.ensures.paired)
