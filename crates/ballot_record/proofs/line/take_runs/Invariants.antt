use Rattle.std.proofs.Common.{◌≡◌, ◌-◌, ◌/◌, ◌≤◌, ◌⊎◌, None}
use Rattle.ballot_record.specs.LineReading.{digits_at}
use Rattle.ballot_record.proofs.LineSets.{rest_past}
use Rattle.ballot_record.proofs.line.take_runs.Given as goal

-- what is left goes on with the value so far as the whole does with none
abbrev pub invariant-loop-value : goal.invariant-loop-value
invariant-loop-value l = record {
  some : (None ≡ rest_past 48 l.rest) ⊎ (1 ≤ l.value);
  goes_on : digits_at l.limit l.value l.rest ≡ digits_at l.limit 0 l.bytes;
}

abbrev pub decreases-loop-value : goal.decreases-loop-value
decreases-loop-value l = l.limit / 100000000 - l.value

abbrev pub invariant-loop-value-2 : goal.invariant-loop-value-2
invariant-loop-value-2 l = record {
  some : (None ≡ rest_past 48 l.rest) ⊎ (1 ≤ l.value);
  goes_on : digits_at l.limit l.value l.rest ≡ digits_at l.limit 0 l.bytes;
}

abbrev pub decreases-loop-value-2 : goal.decreases-loop-value-2
decreases-loop-value-2 l = l.limit / 10000 - l.value
