use Rattle.std.proofs.Common.{map}
use Rattle.phase_kind.proofs.table.turned.Given as goal
use Rattle.phase_kind.specs.Table.{IsTurned}

-- the columns of the rows so far
abbrev pub invariant-loop-row : goal.invariant-loop-row
invariant-loop-row g l = IsTurned l.places (map (λ row. row.items) l.yielded) (map (λ column. column.items) l.columns.items)
