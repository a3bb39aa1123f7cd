use Rattle.std.proofs.Common.{◌≡◌, take}
use Rattle.std.specs.Prelude.{filter}
use Rattle.ticket_sample.specs.Drawing.{numbers_at}
use Rattle.ticket_sample.specs.Sample.{is_drawn}
use Rattle.ticket_sample.proofs.drawing.drawn.Given as goal

-- those of the places so far
abbrev pub invariant-loop-at : goal.invariant-loop-at
invariant-loop-at l = l.chosen.items ≡ filter (λ place. is_drawn l.dice l.count (numbers_at l.places) place.number) (take l.at l.places)
