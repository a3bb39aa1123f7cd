use Rattle.std.proofs.Common.{◌≡◌, length, map, take}
use Rattle.phase_kind.proofs.table.deal.Given as goal
use Rattle.phase_kind.specs.Table.{grown}

-- the row so far is dealt out
abbrev pub invariant-loop-place : goal.invariant-loop-place
invariant-loop-place g l = map (λ column. column.items) l.columns.items ≡ grown (map (λ column. column.items) l.fn.columns.items) (take (length l.yielded) l.fn.row.items)
