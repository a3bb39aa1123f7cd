use Rattle.std.proofs.Common.{◌≡◌, ℕ, ◌<◌, length}
use Rattle.store_spec.proofs.Common.{slice_index}
use Rattle.ballot_record.proofs.Barring.{BarsSoFar}
use Rattle.ballot_record.proofs.barred.bar_behind.Given as goal

-- the bytes so far
abbrev pub invariant-loop-byte : goal.invariant-loop-byte
invariant-loop-byte l = record {
  long : length l.row ≡ 201;
  bars : BarsSoFar l.choices l.width l.from l.row l.byte;
  before : (k : ℕ) → k < l.from → slice_index l.row k ≡ slice_index l.fn.row k;
}
