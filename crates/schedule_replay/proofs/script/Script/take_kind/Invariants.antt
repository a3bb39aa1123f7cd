use Rattle.std.proofs.Common.{◌≡◌, ◌++◌, [], replicate}
use Rattle.schedule_replay.specs.Script.{lists_of}
use Rattle.schedule_replay.proofs.script.Script.take_kind.Given as goal

abbrev pub invariant-loop : goal.invariant-loop
invariant-loop l = (lists_of l.self ≡ lists_of l.fn.self ++ replicate l.counter []) × (l.self.base ≡ l.fn.self.base) × (l.self.schedule ≡ l.fn.self.schedule)
