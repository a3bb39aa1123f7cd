use Rattle.std.proofs.Common.{map, ap, ◌++◌, ◌∙◌}
use Rattle.phase_kind.proofs.Trays.{items_told}
use Rattle.phase_kind.proofs.worker.Worker.items.Goals as goal
use Rattle.phase_kind.specs.Worker.{WorkerView}

pub returns-clause-items : goal.returns-clause-items
returns-clause-items g c =
    let tray = c.self.inside.tray in
    items_told (g.K.Kind.items tray.items) tray.replies.items c.self.invariant.paired
    ∙ ap (λ (w : WorkerView g.row.K-Sight.Denot g.row.K-Item.Denot g.row.K-Reply.Denot). map (λ told. told.item) w.tray ++ w.waiting) c.self.view_is
