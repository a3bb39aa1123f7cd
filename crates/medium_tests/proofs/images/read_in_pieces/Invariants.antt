use Rattle.std.proofs.Common.{◌≡◌, ◌++◌, length}
use Rattle.medium_tests.proofs.images.read_in_pieces.Given as goal

-- the bytes fed so far, and those that are left
abbrev pub invariant-loop-rest : goal.invariant-loop-rest
invariant-loop-rest l = record {
  own : l.reader.election ≡ l.election;
  joined : l.reader.fed ++ l.rest ≡ l.bank;
}

abbrev pub decreases-loop-rest : goal.decreases-loop-rest
decreases-loop-rest l = length l.rest
