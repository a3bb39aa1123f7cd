use Rattle.std.proofs.Common.{◌≡◌, take}
use Rattle.ticket_sample.proofs.drawing.copy_of.Given as goal

-- the lots so far
abbrev pub invariant-loop-lot : goal.invariant-loop-lot
invariant-loop-lot l = l.copy.items ≡ take l.lot-index l.lots
