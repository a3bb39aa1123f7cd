use Rattle.std.proofs.Common.{◌≡◌, ℕ, ◌+◌, ◌<◌, ◌≤◌, get_or}
use Rattle.tally_export.proofs.counts.add_counts.Given as goal

-- the first counts are sums, and the others not yet
abbrev pub invariant-loop-place : goal.invariant-loop-place
invariant-loop-place l = record {
  added : (c : ℕ) → c < l.place → get_or l.counts c 0 ≡ get_or l.fn.counts c 0 + get_or l.more c 0;
  rest : (c : ℕ) → l.place ≤ c → get_or l.counts c 0 ≡ get_or l.fn.counts c 0;
}
