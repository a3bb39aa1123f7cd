use Rattle.std.proofs.Common.{◌≡◌, ◌↔◌}
use Rattle.ballot_record.proofs.Barring.{HaveNoneBefore}
use Rattle.ballot_record.proofs.format.have_none.Given as goal

-- the bytes so far
abbrev pub invariant-loop-place : goal.invariant-loop-place
invariant-loop-place l = (l.marked ≡ 0) ↔ HaveNoneBefore l.bytes l.barred l.place
