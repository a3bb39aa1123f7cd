use Rattle.step_core.proofs.WithdrawSeats.{taken_in}
use Rattle.step_core.proofs.laws.withdraw.seat_taken_in.Goals as goal

pub returns : goal.returns
returns c =
    λ home base words views id other view from inv has has_other apart rests also. taken_in home base words views id other view from inv has has_other apart rests also
