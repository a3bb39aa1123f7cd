use Rattle.std.proofs.Common.{map, sym, ap, ◌∙◌}
use Rattle.phase_kind.proofs.Trays.{replies_told}
use Rattle.phase_kind.proofs.worker.Worker.replies.Goals as goal
use Rattle.phase_kind.specs.Worker.{WorkerView}

pub returns : goal.returns
returns g c =
    let tray = c.self.inside.tray in
    c.deref.ensures.value
    ∙ sym (replies_told (g.K.Kind.items tray.items) tray.replies.items c.self.invariant.paired)
    ∙ ap (λ (w : WorkerView g.row.K-Sight.Denot g.row.K-Item.Denot g.row.K-Reply.Denot). map (λ told. told.reply) w.tray) c.self.view_is
