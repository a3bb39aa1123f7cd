use Rattle.std.proofs.Common.{◌≤◌}
use Rattle.store_spec.proofs.Common.{withdraw_number}
use Rattle.step_core.specs.Shape.{homes_of}
use Rattle.step_core.specs.WithdrawTables.{state_of}
use Rattle.word_rule.proofs.WithdrawWay.{IsUnderWay, Owes, Rises, Sinks, Walks}
use Rattle.word_rule.proofs.WithdrawWork.{work_left}
use Rattle.word_rule.proofs.withdraw.WithdrawWords.remove.Given as goal
use Rattle.word_rule.specs.WithdrawWords.{IsAbout}

abbrev pub invariant-walk : goal.invariant-walk
invariant-walk l = record {
  about : IsAbout l.self (state_of l.state) l.seat;
  way : IsUnderWay (homes_of l.self.shape) (withdraw_number (state_of l.fn.chosen)) l.self.shape.cells l.fn.seat.me.0.view (state_of l.state) l.seat.me.0.view;
  walks : Walks (state_of l.state);
}

abbrev pub decreases-walk : goal.decreases-walk
decreases-walk l = work_left (withdraw_number (state_of l.fn.chosen)) l.self.shape.cells (state_of l.state)

abbrev pub invariant-owed : goal.invariant-owed
invariant-owed l = record {
  about : IsAbout l.self (state_of l.state) l.seat;
  way : IsUnderWay (homes_of l.self.shape) (withdraw_number (state_of l.fn.chosen)) l.self.shape.cells l.fn.seat.me.0.view (state_of l.state) l.seat.me.0.view;
  owes : Owes (state_of l.state);
}

abbrev pub decreases-owed : goal.decreases-owed
decreases-owed l = work_left (withdraw_number (state_of l.fn.chosen)) l.self.shape.cells (state_of l.state)

abbrev pub invariant-up : goal.invariant-up
invariant-up l = record {
  about : IsAbout l.self (state_of l.state) l.seat;
  way : IsUnderWay (homes_of l.self.shape) (withdraw_number (state_of l.fn.chosen)) l.self.shape.cells l.fn.seat.me.0.view (state_of l.state) l.seat.me.0.view;
  rises : Rises (state_of l.state);
  less : work_left (withdraw_number (state_of l.fn.chosen)) l.self.shape.cells (state_of l.state) ≤ work_left (withdraw_number (state_of l.fn.chosen)) l.self.shape.cells (state_of l.initial.state);
}

abbrev pub decreases-up : goal.decreases-up
decreases-up l = work_left (withdraw_number (state_of l.fn.chosen)) l.self.shape.cells (state_of l.state)

abbrev pub invariant-down : goal.invariant-down
invariant-down l = record {
  about : IsAbout l.self (state_of l.state) l.seat;
  way : IsUnderWay (homes_of l.self.shape) (withdraw_number (state_of l.fn.chosen)) l.self.shape.cells l.fn.seat.me.0.view (state_of l.state) l.seat.me.0.view;
  sinks : Sinks (state_of l.state);
  less : work_left (withdraw_number (state_of l.fn.chosen)) l.self.shape.cells (state_of l.state) ≤ work_left (withdraw_number (state_of l.fn.chosen)) l.self.shape.cells (state_of l.initial.state);
}

abbrev pub decreases-down : goal.decreases-down
decreases-down l = work_left (withdraw_number (state_of l.fn.chosen)) l.self.shape.cells (state_of l.state)
