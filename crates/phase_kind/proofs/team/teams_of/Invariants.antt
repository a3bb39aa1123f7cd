use Rattle.std.proofs.Common.{◌≡◌, Global, Vec, length, map, zip, ℕ}
use Rattle.phase_kind.proofs.team.teams_of.Given as goal
use Rattle.phase_kind.specs.Team.{new_team}
use Rattle.phase_kind.specs.Worker.{WorkerView}

-- a team of each row so far
abbrev pub invariant-loop-row : goal.invariant-loop-row
invariant-loop-row g l = record {
  as_many : length l.teams.items ≡ length l.yielded;
  made : l.teams.items ≡ map (λ (at : Vec (WorkerView g.row.K-Sight.Denot g.row.K-Item.Denot g.row.K-Reply.Denot) Global × Vec ℕ Global). new_team at.0.items at.1.items) (zip l.yielded l.orders);
}
