use Rattle.std.proofs.Common.{◌≡◌, ℕ, ◌<◌, length}
use Rattle.store_spec.proofs.Common.{slice_index}
use Rattle.ballot_record.proofs.Barring.{SetsSoFar}
use Rattle.ballot_record.proofs.barred.row_of.Given as goal

-- the contests so far, and nothing in front
abbrev pub invariant-loop-place : goal.invariant-loop-place
invariant-loop-place l = record {
  long : length l.row ≡ 201;
  front : (k : ℕ) → k < 9 → slice_index l.row k ≡ 0;
  sets : SetsSoFar l.election l.style l.row l.place;
}
