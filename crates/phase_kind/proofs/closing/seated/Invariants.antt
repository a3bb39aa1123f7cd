use Rattle.std.proofs.Common.{◌≡◌, ℕ, length, map, zip}
use Rattle.phase_kind.proofs.closing.seated.Given as goal
use Rattle.phase_kind.specs.Worker.{new_worker}

-- a worker at each seat so far
abbrev pub invariant-loop-seat : goal.invariant-loop-seat
invariant-loop-seat g l = record {
  as_many : length l.workers.items ≡ length l.yielded;
  made : l.workers.items ≡ map (λ (place : g.row.K-Seat.Denot × ℕ). new_worker g.K.Kind.fresh (record { base = l.closed; words = (g.K.Kind.standing place.0).words }) place.1) (zip l.yielded l.plan);
}
