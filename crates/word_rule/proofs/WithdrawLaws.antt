-- The rule of withdrawing holds when the words are new, and where seats are made and taken in.
use Rattle.std.proofs.Common.{◌≡◌, ℕ, List, [], ◌∷◌, ◌++◌, replicate, refl, subst}
use Rattle.store_spec.proofs.Common.{All-cons, All-nil, fresh_withdraw_view}
use Rattle.step_core.proofs.WithdrawSeats as laws
use Rattle.step_core.specs.Shape.{homes_of}
use Rattle.step_core.specs.declared.shape.Shape.{Shape}
use Rattle.word_rule.specs.Seats.{KeepsSeats, Opens}
use Rattle.word_rule.specs.WithdrawSeats.{IsAtRest, IsWithdrawn, joined_withdraw_view}
use Rattle.word_rule.specs.WithdrawWords.{MayEmpty}

pub keeps_seats : KeepsSeats IsWithdrawn fresh_withdraw_view joined_withdraw_view IsAtRest
keeps_seats = record {
  made = λ shape base words views h. laws.seat_made (homes_of shape) base words views h;
  taken = λ shape base words views id other view gone h apart has has_gone rests rests_gone. laws.taken_in (homes_of shape) base words views id other view gone h has has_gone apart rests rests_gone;
  still = λ view gone rests rests_gone. refl;
}

-- the rule holds of the cells with no flag set, and one new view
pub opens : (shape : Shape) (cells : List ℕ) → MayEmpty shape cells → Opens IsWithdrawn fresh_withdraw_view shape.cells shape cells
opens shape cells may = record {
  some = may.some;
  size = may.size;
  small = may.small;
  kept = subst (λ (n : ℕ). IsWithdrawn shape cells (cells ++ replicate n 0) (fresh_withdraw_view ∷ [])) may.size
      (laws.opened (homes_of shape) cells (fresh_withdraw_view ∷ []) may.base (All-cons (λ v. v ≡ fresh_withdraw_view) fresh_withdraw_view [] refl (All-nil (λ v. v ≡ fresh_withdraw_view))));
}
