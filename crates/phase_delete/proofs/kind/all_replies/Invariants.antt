use Rattle.std.proofs.Common.{◌≡◌, map}
use Rattle.phase_delete.proofs.kind.all_replies.Given as goal

abbrev pub invariant-loop-tray : goal.invariant-loop-tray
invariant-loop-tray l = map (λ list. list.items) l.replies.items ≡ map (λ tray. tray.replies.items) l.yielded
