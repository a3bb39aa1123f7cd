use Rattle.std.proofs.Common.{◌≡◌, All, map, replicate, []}
use Rattle.phase_gate.proofs.waiting.no_ballots.Given as goal

-- the first lists are there
abbrev pub invariant-lists : goal.invariant-lists
invariant-lists l = record {
  empty : map (λ list. list.ballots) l.lists.items ≡ replicate l._made [];
  elections : All (λ list. list.election ≡ l.election) l.lists.items;
}
