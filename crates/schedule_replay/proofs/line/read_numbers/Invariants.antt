use Rattle.std.proofs.Common.{length}
use Rattle.schedule_replay.proofs.Numbers.{IsRead}
use Rattle.schedule_replay.proofs.line.read_numbers.Given as goal

abbrev pub invariant-loop-rest : goal.invariant-loop-rest
invariant-loop-rest l = IsRead l.bytes l.numbers.items l.rest

abbrev pub decreases-loop-rest : goal.decreases-loop-rest
decreases-loop-rest l = length l.rest
