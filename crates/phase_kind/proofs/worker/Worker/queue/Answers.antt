use Rattle.std.proofs.Common.{◌-◌, ◌<◌, [], ◌∷◌, List, ap, arith, length, length-append, subst, sym, ◌∙◌}
use Rattle.phase_kind.proofs.Trays.{still_told}
use Rattle.phase_kind.proofs.worker.Worker.queue.Goals as goal
use Rattle.phase_kind.specs.AnsweredItem.{AnsweredItem, answered_items}
use Rattle.phase_kind.specs.Worker.{WorkerView}

pub invariant_of-self : goal.invariant_of-self
invariant_of-self g c =
    let k = g.K.Kind in
    let a = c.self.inside in
    let kept = c.self.invariant in
    let items = k.items a.tray.items in
    let replies = a.tray.replies.items in
    let pushed = c.push_from.ensures.pushed in
    let more = ap length pushed.2 ∙ length-append items (pushed.0 ∷ []) in
    let same = ap (λ l. answered_items l replies) pushed.2 ∙ still_told items (pushed.0 ∷ []) replies kept.paired in
    let some : 0 < a.places - length items = subst (λ (w : WorkerView g.row.K-Sight.Denot g.row.K-Item.Denot g.row.K-Reply.Denot). 0 < w.room) (sym c.self.view_is) c.requires.room in
    record {
      told = subst (λ (tray : List (AnsweredItem g.row.K-Item.Denot g.row.K-Reply.Denot)). k.tells (record { base = a.base.value; words = (k.standing a.seat).words }) (k.standing a.seat).view tray) (sym same) kept.told;
      is_of = c.push_from.ensures.is_of a.base.value kept.is_of;
      paired = omega (arith, kept.paired, more);
      within = omega (arith, more, some);
      reserved = kept.reserved;
      listed = omega (arith, kept.listed, c.push_from.ensures.room, more);
    }

pub returns-clause-tray : goal.returns-clause-tray
returns-clause-tray g c =
    let a = c.self.inside in
    let pushed = c.push_from.ensures.pushed in
    let replies = a.tray.replies.items in
    ap (λ l. answered_items l replies) pushed.2
    ∙ still_told (g.K.Kind.items a.tray.items) (pushed.0 ∷ []) replies c.self.invariant.paired
    ∙ ap (λ (w : WorkerView g.row.K-Sight.Denot g.row.K-Item.Denot g.row.K-Reply.Denot). w.tray) c.self.view_is
