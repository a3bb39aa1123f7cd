use Rattle.ballot_record.proofs.FormatReading.{AreSetsSoFar}
use Rattle.ballot_record.proofs.format.put_sets.Given as goal

-- what is left goes on with the sets so far, which stand in front
abbrev pub invariant-loop-place : goal.invariant-loop-place
invariant-loop-place l = AreSetsSoFar l.width l.contests l.bytes l.place l.marks l.rest
