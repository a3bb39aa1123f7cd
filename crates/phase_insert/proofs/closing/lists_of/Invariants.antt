use Rattle.std.proofs.Common.{◌≡◌, map}
use Rattle.phase_insert.proofs.closing.lists_of.Given as goal

-- those of the trays so far
abbrev pub invariant-loop-tray : goal.invariant-loop-tray
invariant-loop-tray l = l.lists.items ≡ map (λ tray. tray.items) l.yielded
