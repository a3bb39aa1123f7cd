use Rattle.std.proofs.Common.{◌≡◌, take}
use Rattle.recovery.proofs.reading.first_differing.Given as goal

-- the bytes so far are the same
abbrev pub invariant-loop-place : goal.invariant-loop-place
invariant-loop-place l = take l.place l.found ≡ take l.place l.page
