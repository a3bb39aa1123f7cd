use Rattle.std.proofs.Common.{take}
use Rattle.phase_kind.proofs.Counts.{AreCounts}
use Rattle.phase_kind.proofs.several.shares.Given as goal

-- the shares of the entries so far
abbrev pub invariant-loop-place : goal.invariant-loop-place
invariant-loop-place l = AreCounts (λ p. p) l.places (take l.place-index l.order) l.shares.items
