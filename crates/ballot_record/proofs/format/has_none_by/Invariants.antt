use Rattle.std.proofs.Common.{◌-◌}
use Rattle.ballot_record.proofs.Barring.{HaveNoneBefore}
use Rattle.ballot_record.proofs.format.has_none_by.Given as goal

-- the bytes so far
abbrev pub invariant-loop-from : goal.invariant-loop-from
invariant-loop-from l = HaveNoneBefore l.cell l.barred l.from

abbrev pub decreases-loop-from : goal.decreases-loop-from
decreases-loop-from l = l.last - l.from
