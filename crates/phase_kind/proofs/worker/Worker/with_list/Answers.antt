use Rattle.std.proofs.Common.{[], ◌∙◌, List, ap, arith, length, subst, sym}
use Rattle.body_store.specs.Contents.{Contents}
use Rattle.phase_kind.proofs.Listed.{begun_with}
use Rattle.phase_kind.proofs.Trays.{none_told}
use Rattle.phase_kind.proofs.worker.Worker.with_list.Goals as goal
use Rattle.phase_kind.specs.Phase.{OpenPhase}
use Rattle.phase_kind.specs.AnsweredItem.{AnsweredItem, answered_items}

pub invariant_of-result : goal.invariant_of-result
invariant_of-result g c =
    let k = g.K.Kind in
    let tray = c.in_ok-tray_with.field-0 in
    let made = c.in_ok-tray_with.ensures in
    let seat = k.standing c.args.seat in
    let phase : OpenPhase = record { base = c.of.result.value; words = seat.words } in
    let none = ap (answered_items (k.items tray.items)) made.items.1 ∙ none_told (k.items tray.items) in
    record {
      told = subst (λ (told : List (AnsweredItem g.row.K-Item.Denot g.row.K-Reply.Denot)). k.tells phase seat.view told) (sym none)
          (subst (λ (view : g.row.K-Sight.Denot). k.tells phase view []) (sym c.requires.new) (c.trays_tell.ensures.none phase));
      is_of = subst (λ (list : g.row.K-List.Denot). k.is_of c.of.result.value list) (sym made.items.0) (subst (λ (base : Contents). k.is_of base c.args.list) (sym c.of.ensures) c.requires.is_of);
      paired = omega (arith, ap length made.items.1);
      within = omega (arith, ap (λ list. length (k.items list)) made.items.0, c.len-items.ensures);
      reserved = made.room;
      listed = omega (arith, ap (λ list. length (k.items list)) made.items.0, c.len-items.ensures);
    }

pub returns : goal.returns
returns g c =
    let k = g.K.Kind in
    let tray = c.in_ok-tray_with.field-0 in
    let made = c.in_ok-tray_with.ensures in
    let seat = k.standing c.args.seat in
    begun_with k.fresh seat.view (record { base = c.args.closed.now; words = seat.words }) (record { base = c.of.result.value; words = seat.words }) (k.items tray.items) (k.items c.args.list) tray.replies.items c.len-items.result
    (ap (λ (base : Contents). record { base = base; words = seat.words }) c.of.ensures) c.requires.new (ap k.items made.items.0) made.items.1 (omega (arith, c.len-items.ensures))
