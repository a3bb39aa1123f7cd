use Rattle.std.proofs.Common.{◌≡◌, map, replicate, []}
use Rattle.phase_gate.proofs.waiting.empty_lists.Given as goal

-- the first lists are there
abbrev pub invariant-lists : goal.invariant-lists
invariant-lists g l = map (λ list. list.items) l.lists.items ≡ replicate l._made []
