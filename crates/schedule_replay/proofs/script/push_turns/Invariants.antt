use Rattle.std.proofs.Common.{◌≡◌, ◌++◌, take}
use Rattle.schedule_replay.proofs.script.push_turns.Given as goal

abbrev pub invariant-loop-tab : goal.invariant-loop-tab
invariant-loop-tab l = l.schedule.items ≡ l.initial.schedule.items ++ take l.tab-index l.turns
