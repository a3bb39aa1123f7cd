use Rattle.std.proofs.Common.{◌≡◌, [], All, length}
use Rattle.phase_kind.proofs.table.empty.Given as goal

-- as many columns so far, all empty
abbrev pub invariant-loop : goal.invariant-loop
invariant-loop g l = record { as_many : length l.columns.items ≡ l.counter; empty : All (λ column. column.items ≡ []) l.columns.items }
