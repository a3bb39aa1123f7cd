use Rattle.std.proofs.Common.{◌≡◌, map}
use Rattle.phase_kind.proofs.team.workers_of.Given as goal

-- the workers of the teams so far
abbrev pub invariant-loop-team : goal.invariant-loop-team
invariant-loop-team g l = map (λ row. row.items) l.rows.items ≡ map (λ team. team.workers) l.yielded
