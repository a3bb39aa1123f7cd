use Rattle.std.proofs.Common.{◌≡◌, take}
use Rattle.body_store.specs.Contents.{ballots_of}
use Rattle.body_store.specs.Held.{held_in}
use Rattle.ticket_sample.specs.Drawing.{numbers_at}
use Rattle.ticket_sample.proofs.drawing.records_at.Given as goal

-- those at the places so far
abbrev pub invariant-loop-place : goal.invariant-loop-place
invariant-loop-place l = ballots_of l.records.items ≡ held_in l.closed.ballots (numbers_at (take l.place-index l.places))
