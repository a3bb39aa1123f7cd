-- A step of a seat of casting is a row of the table, which the rule of the words allows.
use Rattle.std.proofs.Common.{◌≡◌, ◌≢◌, ℕ, Some, List, get_or, map, set, refl, sym, subst}
use Rattle.store_spec.proofs.Common.{Carrying, CastInvariant, CastNote, CastRow, CastState, CastView, Claimed, Falls, GoesFrom, HasRoomFor, Placed, Probing, Ready, Rest, Table, Taken, cast_act, cast_measure, cast_number, cast_view_after, fresh_cast_view, left_by, numbers_in, slice_get, word_of}
use Rattle.atomic_table.specs.Table.{Allows, Me, keeps, stepped}
use Rattle.step_core.proofs.CastRows.{keeps_row}
use Rattle.step_core.proofs.CastSteps.{begins, begun, falls_at, finds_at, fits_at, keeps_step}
use Rattle.step_core.proofs.Sets.{stands-map, stands-set}
use Rattle.step_core.specs.CastTables.{FitsIn, LeadsTo, MayFind}
use Rattle.step_core.specs.Shape.{table_of}
use Rattle.store_spec.specs.CastStep.CastNote.{Quiet, Full}
use Rattle.word_rule.proofs.CastFound.{a_row}
use Rattle.word_rule.proofs.CastTold.{told_alike}
use Rattle.word_rule.proofs.Weights.{at_slice, knows_opening, steps}
use Rattle.word_rule.specs.CastSeats.{IsCast, IsToldAlike, StepsFrom}
use Rattle.word_rule.specs.Seats.{IsSeated}
use Rattle.word_rule.specs.declared.seats.Known.{Known}
use Rattle.word_rule.specs.declared.seats.Opening.{Opening}

-- a step goes from some state
moves : (t : Table) (base : List ℕ) (state from : CastState) → GoesFrom t base state from → from ≢ Rest
moves t base Rest from goes e = let begins = goes.2 in absurd cc
moves t base (Probing x k) from goes e = absurd cc
moves t base (Carrying v i) from goes e = absurd cc
moves t base (Ready v i s) from goes e = absurd cc

pub state_after : (view : CastView) (x : ℕ) (new : CastState) (note : CastNote) → (cast_view_after view x new note).state ≡ new
state_after view x new Quiet = refl
state_after view x new Claimed = refl
state_after view x new Taken = refl
state_after view x new Full = refl
state_after view x new Placed = refl

-- the step that a state makes, on these words
record IsMade (t : Table) (base words : List ℕ) (views : List CastView) (id : ℕ) (view : CastView) (from : CastState) (word f left : ℕ) : Type 0 where
  new : CastState
  note : CastNote
  may_find : MayFind from f
  leads : LeadsTo t from f new note
  kept : CastInvariant t base (set words word left) (set views id (cast_view_after view (cast_number from) new note))
  fits : FitsIn t new
  told : IsToldAlike view (cast_number from) note
  falls : Falls (cast_measure t new) (cast_measure t from)

-- what the step is about is kept as if the view had begun with it before
made_so : (t : Table) (base words : List ℕ) (views : List CastView) (id : ℕ) (view : CastView) (from : CastState) (word left : ℕ) (new : CastState) (note : CastNote) → HasRoomFor t base → CastInvariant t base words views → slice_get views id ≡ Some view → GoesFrom t base view.state from
    → let f = get_or words word 0 in MayFind from f → CastRow t from word f left new note → LeadsTo t from f new note → IsMade t base words views id view from word f left
made_so t base words views id view from word left new note room h stands goes finds row leads =
    let own = begun view from in
    let own_views = set views id own in
    let before = begins t base words views id view view.state from h stands refl goes in
    let stands_own = stands-set views id view own stands in
    let now = cast_view_after view (cast_number from) new note in
    let after = keeps_step t base words views id (set words word left) (set views id now) room h
    (record { view = view; acts = stands; from = from; goes = goes; word = word; left = left; new = new; note = note; row = row; words_now = refl; view_now = refl }) in
    let after_own = keeps_row t from word (get_or words word 0) left new note row base words own_views id own room before stands_own refl refl in
    let told = told_alike t base words (set words word left) own_views id own from new note before stands_own refl after_own word left row in
    record {
      new = new;
      note = note;
      may_find = finds;
      leads = leads;
      kept = after;
      fits = fits_at t base (set words word left) (set views id now) id now room after (stands-set views id view now stands) new (state_after view (cast_number from) new note);
      told = record { again = told.again; no_room = told.no_room; full_again = told.full_again };
      falls = falls_at t base words own_views id own room before stands_own word left new note row;
    }

made : (t : Table) (base words : List ℕ) (views : List CastView) (id : ℕ) (view : CastView) (from : CastState) → HasRoomFor t base → CastInvariant t base words views → slice_get views id ≡ Some view → GoesFrom t base view.state from
    → let act = cast_act t from in let word = word_of act in let f = get_or words word 0 in IsMade t base words views id view from word f (left_by act f)
made t base words views id view from room h stands goes =
    let f = get_or words (word_of (cast_act t from)) 0 in
    let own = begun view from in
    let before = begins t base words views id view view.state from h stands refl goes in
    let stands_own = stands-set views id view own stands in
    let finds = finds_at t base words (set views id own) id own room before stands_own from refl (moves t base view.state from goes) in
    let row = a_row t from f (fits_at t base words (set views id own) id own room before stands_own from refl) finds in
    made_so t base words views id view from (word_of (cast_act t from)) (left_by (cast_act t from) f) row.0 row.1 room h stands goes finds row.2 row.2

pub allows : (opening : Opening) (slots id : ℕ) (me : Me (Unit {0}) (Known CastView)) (from : CastState) → me.0.weight ≢ 0 → GoesFrom (table_of me.0.shape) (numbers_in me.0.base) me.0.view.state from
    → let act = cast_act (table_of me.0.shape) from in Allows (IsSeated IsCast fresh_cast_view opening) slots id me (word_of act) (left_by act) (StepsFrom from me)
allows opening slots id me from heavy goes s h homes seen small =
    let known = me.0 in
    let t = table_of known.shape in
    let base = numbers_in known.base in
    let act = cast_act t from in
    let views = map (λ (k : Known CastView). k.view) s.views in
    let is = knows_opening IsCast fresh_cast_view opening s id known h seen heavy in
    let kept : IsCast known.shape known.base s.words views = subst (λ (k : Known CastView). IsCast k.shape k.base s.words views) (sym is) h.kept in
    let stands = stands-map (λ (k : Known CastView). k.view) s.views id known (at_slice s.views id known seen) in
    let m = made t base s.words views id known.view from kept.room kept.invariant stands goes in
    let view = cast_view_after known.view (cast_number from) m.new m.note in
    let now : Known CastView = record known { view = view } in
    let words = set s.words (word_of act) (left_by act (get_or s.words (word_of act) 0)) in
    let kept_now : IsCast known.shape known.base words (set views id view) = record { room = kept.room; invariant = m.kept } in (
      now,
      keeps,
      tt,
      steps IsCast fresh_cast_view opening s id known words view (stepped s (word_of act) (left_by act (get_or s.words (word_of act) 0)) id me.1 now keeps) h seen heavy
          (subst (λ (k : Known CastView). IsCast k.shape k.base words (set views id view)) is kept_now) refl refl,
      record {
        new = m.new;
        note = m.note;
        may_find = m.may_find;
        leads = m.leads;
        is = refl;
        fits = m.fits;
        told_alike = m.told;
        falls = m.falls;
      },
    )

-- a state that is not at rest goes on from itself
pub goes_on_from : (t : Table) (base : List ℕ) (state : CastState) → state ≢ Rest → GoesFrom t base state state
goes_on_from t base Rest moving = absurd (moving refl)
goes_on_from t base (Probing x k) moving = refl
goes_on_from t base (Carrying v i) moving = refl
goes_on_from t base (Ready v i s) moving = refl
