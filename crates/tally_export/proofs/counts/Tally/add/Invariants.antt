use Rattle.std.proofs.Common.{◌≡◌, ℕ, ◌+◌, ◌<◌, ◌≤◌, [], get_or}
use Rattle.tally_export.proofs.counts.Tally.add.Given as goal

-- the counts of the first contests are sums, and the others not yet
abbrev pub invariant-contests : goal.invariant-contests
invariant-contests l = record {
  added : (k c : ℕ) → k < l.place → c < 64
      → get_or (get_or l.self.choices k []) c 0 ≡
      get_or (get_or l.fn.self.choices k []) c 0 + get_or (get_or l.more.choices k []) c 0;
  rest : (k : ℕ) → l.place ≤ k → get_or l.self.choices k [] ≡ get_or l.fn.self.choices k [];
  under : l.self.under ≡ l.fn.self.under;
  over : l.self.over ≡ l.fn.self.over;
}
