use Rattle.std.proofs.Common.{◌≡◌, ◌≢◌, ℕ, ◌≤◌}
use Rattle.store_spec.proofs.Common.{Ready, cast_number}
use Rattle.step_core.specs.CastTables.{state_of}
use Rattle.step_core.specs.Shape.{table_of}
use Rattle.word_rule.proofs.CastHands.{IsHeld, work_left}
use Rattle.word_rule.proofs.cast.CastWords.place.Given as goal
use Rattle.word_rule.specs.CastSeats.{MakesNextRow}
use Rattle.word_rule.specs.CastWords.{IsAbout}
use Rattle.word_rule.specs.Chain.{Rows}

abbrev pub invariant-cells : goal.invariant-cells
invariant-cells l = record {
  about : IsAbout l.self (state_of l.state) l.seat;
  held : IsHeld (cast_number (state_of l.fn.in_hand)) (state_of l.state);
  lists : l.seat.me.0.view ≡ record l.fn.seat.me.0.view { state = state_of l.state };
  rows : Rows (MakesNextRow (table_of l.self.shape)) l.fn.seat.me.0.view l.seat.me.0.view;
  seen_none : (number place seen : ℕ) → state_of l.state ≢ Ready number place seen;
}

abbrev pub decreases-cells : goal.decreases-cells
decreases-cells l = work_left (cast_number (state_of l.fn.in_hand)) (table_of l.self.shape) (state_of l.state)

abbrev pub invariant-exchanges : goal.invariant-exchanges
invariant-exchanges l = record {
  about : IsAbout l.self (state_of l.state) l.seat;
  held : IsHeld (cast_number (state_of l.fn.in_hand)) (state_of l.state);
  lists : l.seat.me.0.view ≡ record l.fn.seat.me.0.view { state = state_of l.state };
  rows : Rows (MakesNextRow (table_of l.self.shape)) l.fn.seat.me.0.view l.seat.me.0.view;
  less : work_left (cast_number (state_of l.fn.in_hand)) (table_of l.self.shape) (state_of l.state) ≤ work_left (cast_number (state_of l.fn.in_hand)) (table_of l.self.shape) (state_of l.initial.state);
}

abbrev pub decreases-exchanges : goal.decreases-exchanges
decreases-exchanges l = work_left (cast_number (state_of l.fn.in_hand)) (table_of l.self.shape) (state_of l.state)
