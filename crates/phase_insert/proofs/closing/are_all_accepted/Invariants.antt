use Rattle.std.proofs.Common.{take}
use Rattle.store_spec.proofs.Common.{All}
use Rattle.phase_insert.proofs.closing.are_all_accepted.Given as goal
use Rattle.phase_insert.specs.Tray.{IsAllAccepted}

-- those so far
abbrev pub invariant-loop-tray : goal.invariant-loop-tray
invariant-loop-tray l = All IsAllAccepted (take l.tray-index l.trays)
