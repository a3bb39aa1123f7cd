use Rattle.std.proofs.Common.{Global, List, Vec, map}
use Rattle.phase_kind.proofs.Taken.{AreTaken}
use Rattle.part_play.proofs.several.closed.Given as goal
use Rattle.part_play.specs.Several.{HaveEnded}
use Rattle.phase_kind.specs.Phase.{OpenPhase}
use Rattle.phase_kind.specs.Worker.{WorkerView}

-- the phases so far are closed
abbrev pub invariant-loop-phase : goal.invariant-loop-phase
invariant-loop-phase g l =
    (taken : List OpenPhase) × (beside : List (Vec (WorkerView g.row.K-Sight.Denot g.row.K-Item.Denot g.row.K-Reply.Denot) Global)) × AreTaken l.fn.phases.items l.fn.columns.items taken beside l.phase-iterator.rest.items l.rest.rest.items
    × HaveEnded g.K.Kind.closes taken (map (λ column. column.items) beside) l.stores.items (map (λ finals. map (λ list. list.items) finals.items) l.told.items)
