use Rattle.std.proofs.Common.{◌≡◌, ◌↔◌, ℕ, ◌<◌, get_or}
use Rattle.std.specs.Bool.{IsTrue}
use Rattle.bank_medium.proofs.same.same_block.Given as goal

-- the bytes so far
abbrev pub invariant-loop-place : goal.invariant-loop-place
invariant-loop-place l = IsTrue l.same ↔ ((k : ℕ) → k < l.place → get_or l.one k 0 ≡ get_or l.two k 0)
