use Rattle.phase_kind.proofs.Teams.{HasHandledFirst}
use Rattle.phase_kind.proofs.several.answer_in_order.Given as goal
use Rattle.phase_kind.specs.Team.{IsTeam}

-- the team has handled the entries so far
abbrev pub invariant-loop : goal.invariant-loop
invariant-loop g l = record {
  team : IsTeam l.phases l.team.workers;
  first : HasHandledFirst g.K.Kind.rests l.initial.team l.counter l.team;
}
