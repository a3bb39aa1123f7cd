-- The rule of casting holds when the words are new, and where seats are made and taken in.
use Rattle.std.proofs.Common.{◌≡◌, ◌≢◌, ◌==◌, not, ℕ, ◌^◌, ◌<◌, ⊎_elim, List, [], ◌∷◌, refl, sym, ap, subst, arith, pow_pos}
use Rattle.store_spec.proofs.Common.{All, All-cons, All-nil, HasRoomFor, cases_eq, cond-false, cond-true, eq-eqb, fresh_cast_view, joined_cast_view, ne_eqb, numbers_in}
use Rattle.layout_def.proofs.Fronts.{distinct_in}
use Rattle.probe_order.specs.Below.{home_of-lt}
use Rattle.step_core.proofs.CastOpening as core
use Rattle.step_core.proofs.SameNumbers.{hold, numbers_weigh}
use Rattle.step_core.proofs.Sets.{once_distinct}
use Rattle.step_core.specs.Shape.{homes_of, table_of}
use Rattle.step_core.specs.declared.shape.Shape.{Shape}
use Rattle.word_rule.specs.CastSeats.{IsAtRest, IsCast}
use Rattle.word_rule.specs.CastWords.{MayHold}
use Rattle.word_rule.specs.Seats.{KeepsSeats, Opens}

pub keeps_seats : KeepsSeats IsCast fresh_cast_view joined_cast_view IsAtRest
keeps_seats = record {
  made = λ shape base words views h. record { room = h.room; invariant = core.seat_made (table_of shape) (numbers_in base) words views h.invariant };
  taken = λ shape base words views id other view gone h apart stands stands_gone rest rest_gone. record {
    room = h.room;
    invariant = core.seat_taken_in (table_of shape) (numbers_in base) words views id other view gone h.invariant apart stands stands_gone rest rest_gone;
  };
  still = λ view gone rest rest_gone. refl;
}

-- ---- the numbers in cells

-- none of the numbers in cells is 0
numbers_some : (cells : List ℕ) → All (λ v. v ≢ 0) (numbers_in cells)
numbers_some [] = All-nil (λ v. v ≢ 0)
numbers_some (cell ∷ cells) = ⊎_elim
    (λ (empty : cell ≡ 0). subst (All (λ v. v ≢ 0)) (sym (cond-false (not (cell == 0)) (cell ∷ numbers_in cells) (numbers_in cells) (ap not (eq-eqb cell 0 empty)))) (numbers_some cells))
    (λ (filled : cell ≢ 0). subst (All (λ v. v ≢ 0)) (sym (cond-true (not (cell == 0)) (cell ∷ numbers_in cells) (numbers_in cells) (ap not (ne_eqb cell 0 filled)))) (All-cons (λ v. v ≢ 0) cell (numbers_in cells) filled (numbers_some cells)))
    (cases_eq cell 0)

-- ---- new words

-- there is room for what stands in the cells
has_room : (shape : Shape) (cells : List ℕ) → MayHold shape cells → HasRoomFor (table_of shape) (numbers_in cells)
has_room shape cells may = record {
  some = numbers_some cells;
  homes = 2 ^ shape.order.bits;
  homed = λ v. home_of-lt shape.order.bits shape.order.salt v shape.order.few_bits;
  room = let room = may.room in omega arith;
}

-- the rule holds of the cells with free claim words, and one new view
pub opens : (shape : Shape) (cells : List ℕ) → MayHold shape cells → Opens IsCast fresh_cast_view shape.claims shape cells
opens shape cells may = record {
  some = let room = may.room in let some : 0 < 2 ^ shape.order.bits = pow_pos shape.order.bits in omega arith;
  size = may.size;
  small = may.small;
  kept = record {
    room = has_room shape cells may;
    invariant = core.opening (table_of shape) (numbers_in cells) cells (fresh_cast_view ∷ []) may.ordered may.size (hold (numbers_weigh cells))
        (once_distinct (numbers_in cells) (distinct_in (homes_of shape) cells may.ordered))
        (All-cons (λ view. view ≡ fresh_cast_view) fresh_cast_view [] refl (All-nil (λ view. view ≡ fresh_cast_view)));
  };
}
