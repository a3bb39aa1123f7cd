use Rattle.std.proofs.Common.{Global, List, Vec, map}
use Rattle.body_store.specs.Contents.{Contents}
use Rattle.phase_kind.proofs.Taken.{AreTaken}
use Rattle.part_play.proofs.several.begun.Given as goal
use Rattle.part_play.specs.Several.{HaveBegun}

-- the phases of the stores so far
abbrev pub invariant-loop-store : goal.invariant-loop-store
invariant-loop-store g l =
    (taken : List Contents) × (beside : List (Vec g.row.K-List.Denot Global)) × AreTaken l.fn.stores.items l.fn.lists.items taken beside l.store-iterator.rest.items l.rest.rest.items
    × HaveBegun g.K.Kind.fresh taken (map (λ row. map g.K.Kind.items row.items) beside) l.phases.items (map (λ row. row.items) l.rows.items)
