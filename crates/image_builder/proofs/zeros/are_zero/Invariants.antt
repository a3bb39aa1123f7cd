use Rattle.std.proofs.Common.{◌≡◌, ◌↔◌, ℕ, ◌<◌, get_or}
use Rattle.std.specs.Bool.{IsTrue}
use Rattle.image_builder.proofs.zeros.are_zero.Given as goal

-- the bytes so far
abbrev pub invariant-loop-byte : goal.invariant-loop-byte
invariant-loop-byte l = IsTrue l.zero ↔ ((k : ℕ) → k < l.byte-index → get_or l.bytes k 0 ≡ 0)
