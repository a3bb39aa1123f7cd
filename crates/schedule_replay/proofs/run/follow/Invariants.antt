use Rattle.std.proofs.Common.{◌≡◌, take}
use Rattle.step_core.specs.Schedule.{Follows}
use Rattle.schedule_replay.specs.Replayed.{places_of}
use Rattle.schedule_replay.proofs.run.follow.Given as goal

-- the first turns were followed
abbrev pub invariant-turns : goal.invariant-turns
invariant-turns g l = record {
  follows : Follows g.C.Machine.steps g.C.Machine.done l.initial.core (places_of (take l.tab-index l.schedule)) l.core;
  tabs : g.C.Machine.tabs l.core ≡ g.C.Machine.tabs l.initial.core;
  sound : g.C.Machine.sound l.core;
}
