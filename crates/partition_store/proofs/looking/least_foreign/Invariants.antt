use Rattle.std.proofs.Common.{take}
use Rattle.partition_store.proofs.looking.least_foreign.Given as goal
use Rattle.partition_store.specs.Foreign.{IsAmong, IsLeastForeign}

-- of the cells so far
abbrev pub invariant-loop-number : goal.invariant-loop-number
invariant-loop-number l = IsLeastForeign l.bits l.part (IsAmong (take l.number-index l.cells)) l.least
