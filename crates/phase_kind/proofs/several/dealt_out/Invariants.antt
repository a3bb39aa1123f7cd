use Rattle.std.proofs.Common.{All, length, take, zip}
use Rattle.phase_kind.proofs.several.dealt_out.Given as goal
use Rattle.phase_kind.specs.Team.{AreFilled}

-- the items so far are dealt out
abbrev pub invariant-loop-index : goal.invariant-loop-index
invariant-loop-index g l = record {
  of_each : All (λ at. g.K.Kind.is_of at.0 at.1) (zip l.stores l.lists);
  filled : AreFilled g.K.Kind.items g.K.Kind.room (length l.stores) l.order (take l.index (g.K.Kind.items l.list)) l.lists;
}
