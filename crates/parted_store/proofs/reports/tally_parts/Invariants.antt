use Rattle.std.proofs.Common.{take}
use Rattle.parted_store.proofs.reports.tally_parts.Given as goal
use Rattle.partition_store.specs.Parted.{joined}
use Rattle.tally_export.specs.Counted.{IsTallyOf}

-- the parts so far were counted
abbrev pub invariant-parts : goal.invariant-parts
invariant-parts g l = record { counted : IsTallyOf l.store.election (joined (take l.index l.store.sets)) l.all }
