use Rattle.std.proofs.Common.{◌≡◌, take}
use Rattle.ticket_sample.specs.Drawing.{lots_of, numbers_at}
use Rattle.ticket_sample.proofs.drawing.lots.Given as goal

-- the lots of the places so far
abbrev pub invariant-loop-place : goal.invariant-loop-place
invariant-loop-place l = l.lots.items ≡ lots_of l.dice (numbers_at (take l.place-index l.places))
