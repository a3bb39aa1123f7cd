use Rattle.std.proofs.Common.{ap, ◌∙◌}
use Rattle.phase_kind.proofs.Trays.{none_waits}
use Rattle.phase_kind.proofs.worker.Worker.into_parts.Goals as goal
use Rattle.phase_kind.specs.Worker.{WorkerView}

pub returns-clause-paired : goal.returns-clause-paired
returns-clause-paired g c =
    let tray = c.self.inside.tray in
    none_waits (g.K.Kind.items tray.items) tray.replies.items c.self.invariant.paired
    (ap (λ (w : WorkerView g.row.K-Sight.Denot g.row.K-Item.Denot g.row.K-Reply.Denot). w.waiting) c.self.view_is ∙ c.requires.idle)
