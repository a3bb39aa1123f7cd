use Rattle.std.proofs.Common.{◌≡◌, ℕ, ◌<◌}
use Rattle.schedule_replay.proofs.Following.{InTurnBefore}
use Rattle.schedule_replay.proofs.run.rest_all.Given as goal

-- the first of them have stepped in turn and have nothing left to do
abbrev pub invariant-tabs : goal.invariant-tabs
invariant-tabs g l = record {
  in_turn : InTurnBefore g.C.Machine.steps g.C.Machine.done l.tab l.initial.core l.core;
  done : (id : ℕ) → id < l.tab → g.C.Machine.done l.core id;
  tabs : g.C.Machine.tabs l.core ≡ g.C.Machine.tabs l.initial.core;
  sound : g.C.Machine.sound l.core;
}
