use Rattle.std.proofs.Common.{◌≡◌, length}
use Rattle.phase_kind.proofs.closing.taken_apart.Given as goal
use Rattle.phase_kind.specs.AnsweredItem.{answered_items}
use Rattle.phase_kind.specs.Worker.{AreSeatsAndTrays}

-- the parts of the workers so far
abbrev pub invariant-loop-worker : goal.invariant-loop-worker
invariant-loop-worker g l =
    let k = g.K.Kind in
    AreSeatsAndTrays k.standing (λ tray. answered_items (k.items tray.items) tray.replies.items) (λ base tray. k.is_of base tray.items) (λ tray. length (k.items tray.items) ≡ length tray.replies.items) k.tells l.yielded l.seats.items l.trays.items
