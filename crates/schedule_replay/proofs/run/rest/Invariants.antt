use Rattle.std.proofs.Common.{◌≡◌, ◌≢◌, ℕ}
use Rattle.schedule_replay.specs.Machine.{StepsOn}
use Rattle.schedule_replay.proofs.run.rest.Given as goal

-- the one that steps leaves the others as they are
abbrev pub invariant-rounds : goal.invariant-rounds
invariant-rounds g l = record {
  follows : StepsOn g.C.Machine.steps g.C.Machine.done l.initial.core l.tab l.core;
  others : (id : ℕ) → id ≢ l.tab → g.C.Machine.done l.initial.core id → g.C.Machine.done l.core id;
  tabs : g.C.Machine.tabs l.core ≡ g.C.Machine.tabs l.initial.core;
  sound : g.C.Machine.sound l.core;
}

abbrev pub decreases-rounds : goal.decreases-rounds
decreases-rounds g l = g.C.Machine.work l.core l.tab
