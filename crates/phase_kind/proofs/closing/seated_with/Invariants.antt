use Rattle.std.proofs.Common.{◌≡◌, List, map, zip}
use Rattle.phase_kind.proofs.Taken.{AreTaken}
use Rattle.phase_kind.proofs.closing.seated_with.Given as goal
use Rattle.phase_kind.specs.Worker.{worker_with}

-- a worker at each seat so far
abbrev pub invariant-loop-seat : goal.invariant-loop-seat
invariant-loop-seat g l =
    (taken : List g.row.K-Seat.Denot) × (beside : List g.row.K-List.Denot) × AreTaken l.fn.seats.items l.fn.work.items taken beside l.seat-iterator.rest.items l.rest.rest.items
    × (l.workers.items ≡ map (λ (place : g.row.K-Seat.Denot × g.row.K-List.Denot). worker_with g.K.Kind.fresh (record { base = l.closed; words = (g.K.Kind.standing place.0).words }) (g.K.Kind.items place.1)) (zip taken beside))
