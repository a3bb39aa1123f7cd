use Rattle.std.proofs.Common.{length, map, take}
use Rattle.phase_kind.proofs.Counts.{AreCounts, AreMerged}
use Rattle.phase_kind.proofs.several.in_order.Given as goal

-- the replies so far, and how many were taken of each row
abbrev pub invariant-loop-index : goal.invariant-loop-index
invariant-loop-index g l = record {
  next : AreCounts (λ p. p) (length l.replies) (take l.index l.order) l.next.items;
  told : AreMerged (λ p. p) l.order (map (λ row. row.items) l.replies) l.index l.told.items;
}
