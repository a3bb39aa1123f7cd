use Rattle.std.proofs.Common.{◌≡◌, ℕ, ◌+◌, List, Some, length, slice_get}
use Rattle.ballot_record.specs.Barred.{IsBarredOn}
use Rattle.ballot_record.specs.Format.{largest_cell}
use Rattle.ballot_record.proofs.barred.Barred.new.Given as goal

-- the rows so far
abbrev pub invariant-loop-place : goal.invariant-loop-place
invariant-loop-place l = record {
  count : length l.rows.items ≡ l.place;
  each : (k : ℕ) (row : List ℕ) → slice_get l.rows.items k ≡ Some row
      → (length row ≡ largest_cell) × IsBarredOn l.election (k + 1) row;
}
