use Rattle.std.proofs.Common.{◌≡◌, length}
use Rattle.ballot_record.specs.LineReading.{digits_at}
use Rattle.ballot_record.proofs.line.take_digits.Given as goal

-- what is left goes on with the value so far as the whole does with the value before
abbrev pub invariant-loop-rest : goal.invariant-loop-rest
invariant-loop-rest l = digits_at l.limit l.value l.rest ≡ digits_at l.limit l.before l.bytes

abbrev pub decreases-loop-rest : goal.decreases-loop-rest
decreases-loop-rest l = length l.rest
