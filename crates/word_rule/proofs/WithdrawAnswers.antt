-- What a step leaves of a seat of withdrawing, from what it told and from the table of steps.
use Rattle.std.proofs.Common.{◌≡◌, ◌≢◌, ◌⊎◌, ℕ, ◌+◌, List, length, sym, ◌∙◌, ap, subst, arith}
use Rattle.store_spec.proofs.Common.{Act, Contains, Falls, FirstRow, Gone, StandsInBase, WithdrawNote, WithdrawView, fresh_withdraw_view, left_by, withdraw_act, withdraw_measure, word_of}
use Rattle.atomic_table.specs.Table.{Allows, Me, Step}
use Rattle.atomic_table.specs.declared.shared.Seat.{Seat}
use Rattle.atomic_table.specs.declared.shared.Shared.{Shared}
use Rattle.step_core.specs.Shape.{homes_of}
use Rattle.step_core.specs.WithdrawTables.{FitsIn, LeadsTo, state_of}
use Rattle.step_core.specs.declared.shape.Shape.{Shape}
use Rattle.step_core.specs.declared.withdraw.WithdrawState.{WithdrawState}
use Rattle.store_spec.specs.WithdrawStep as definition
use Rattle.store_spec.specs.WithdrawStep.WithdrawState.{Rest}
use Rattle.word_rule.proofs.WithdrawAfter.{SeatAfter, after_first, after_later, first_row_made, flagged_is, gone_again, row_made, same_later}
use Rattle.word_rule.proofs.WithdrawAllows.{first_allowed, later_allowed}
use Rattle.word_rule.specs.Places.{AreWords, words_seen}
use Rattle.word_rule.specs.Seats as rule
use Rattle.word_rule.specs.Seats.{SharedWords, words_of}
use Rattle.word_rule.specs.WithdrawSeats.{Began, IsWithdrawn, TookNextRow}
use Rattle.word_rule.specs.WithdrawWords.{IsAbout, MakesFirstRow, MakesRow, MayEmpty}
use Rattle.word_rule.specs.declared.seats.Known.{Known}
use Rattle.word_rule.specs.declared.seats.Opening.{Opening}

abbrev Here : Type 0
Here = Me (Unit {0}) (Known WithdrawView)

abbrev OneSeat : Type 0
OneSeat = Seat (Unit {0}) (Known WithdrawView)

abbrev Words : Type 0 → Type 0
Words Q = Shared (Unit {0}) (Known WithdrawView) Opening Q

abbrev AreWithdrawWords : {Q : Type 0} → Shape → Words Q → Type 0
AreWithdrawWords shape shared = AreWords MayEmpty (λ (shape : Shape). shape.cells) shape shared

-- a seat of words has their shape
pub shape_of_seat : (of : SharedWords) (state : definition.WithdrawState) (seat : OneSeat) → IsAbout of state seat → seat.me.0.shape ≡ of.shape
shape_of_seat of state seat about = ap (λ (v : SharedWords). v.shape) about.belongs

-- a seat that a step left as it is to be is about the new state
still_about : (of : SharedWords) (from : definition.WithdrawState) (seat now : OneSeat) (new : WithdrawState) (view : WithdrawView) → IsAbout of from seat → now.table_id ≡ seat.table_id → now.me ≡ (record seat.me.0 { view = view }, seat.me.1) → SeatAfter new seat.me now.me → IsAbout of (state_of new) now
still_about of from seat now new view about table is after =
    let belongs : words_of now.table_id now.me.0 ≡ of = ap (λ t. words_of t now.me.0) table ∙ ap (λ (m : Here). words_of seat.table_id m.0) is ∙ about.belongs in
    record {
      belongs = belongs;
      state_is = sym after.same_state;
      single = record { holds_none = after.holds ∙ about.single.holds_none; weight = after.weight ∙ about.single.weight };
      fits = subst (λ (s : definition.WithdrawState). FitsIn of.shape.cells s) (sym after.same_state)
          (subst (λ (s : Shape). FitsIn s.cells now.me.0.view.state) (ap (λ (v : SharedWords). v.shape) belongs) after.fits);
    }

-- words have the shape that is stored with them
pub stored_shape : {Q : Type 0} (shape : Shape) (shared : Words Q) (of : SharedWords) → words_seen shared ≡ of → AreWithdrawWords shape shared → shape ≡ of.shape
stored_shape shape shared of words_is kept = kept.shape_is ∙ ap (λ (v : SharedWords). v.shape) words_is

module _ {Q : Type 0} (shape : Shape) (shared : Words Q) (of : SharedWords) (state : definition.WithdrawState) (seat : OneSeat) (words_is : words_seen shared ≡ of) (kept : AreWithdrawWords shape shared) (about : IsAbout of state seat) where
  base_size : length seat.me.0.base ≡ seat.me.0.shape.cells
  base_size = ap (λ (v : SharedWords). length v.base) (about.belongs ∙ sym words_is) ∙ kept.opened.size ∙ ap (λ (v : SharedWords). v.shape.cells) (words_is ∙ sym about.belongs)

  some_weight : seat.me.0.weight ≢ 0
  some_weight = λ z. let one = about.single.weight in let no : ⊥ = omega arith in no

  -- the act of a state, as the code has it
  pub allows_act : (slots : ℕ) (step : Step (Unit {0})) (act : Act) → state ≢ Rest → act ≡ withdraw_act state → Allows (rule.IsSeated IsWithdrawn fresh_withdraw_view shared.key) slots seat.id seat.me (word_of act) (left_by act) (TookNextRow step seat.me)
  allows_act slots step act moves is = later_allowed shared.key slots seat.id seat.me some_weight base_size act step
      (λ e. moves (sym about.state_is ∙ e)) (is ∙ ap withdraw_act (sym about.state_is))

  -- the first step for a number
  module _ (x place : ℕ) (seated : StandsInBase of.base x place) where
    seated_here : StandsInBase seat.me.0.base x place
    seated_here = subst (λ (l : List ℕ). StandsInBase l x place) (sym (ap (λ (v : SharedWords). v.base) about.belongs)) seated

    pub allows_first : (slots word : ℕ) (step : Step (Unit {0})) → state ≡ Rest → step.word ≡ word → word ≡ shape.cells + place → Allows (rule.IsSeated IsWithdrawn fresh_withdraw_view shared.key) slots seat.id seat.me word (λ found. 1) (Began step seat.me)
    allows_first slots word step rests word_is flag_is = first_allowed shared.key slots seat.id seat.me some_weight base_size x place word step (about.state_is ∙ rests) seated_here word_is
        (flag_is ∙ ap (λ (h : Shape). h.cells + place) (stored_shape shape shared of words_is kept ∙ sym (shape_of_seat of state seat about)))

-- what a first step leaves of a seat
pub record HasBegun (of : SharedWords) (x : ℕ) (seat now : OneSeat) (new : WithdrawState) (note : WithdrawNote) : Type 0 where
  pub about : IsAbout of (state_of new) now
  pub row : MakesFirstRow (homes_of of.shape) x seat.me.0.view note now.me.0.view
  pub again : Contains seat.me.0.view.begun x ⊎ Contains seat.me.0.view.gone x → note ≡ Gone

pub has_begun : (of : SharedWords) (state : definition.WithdrawState) (seat now : OneSeat) (x place : ℕ) (step : Step (Unit {0})) (found : ℕ) (new : WithdrawState) (note : WithdrawNote) → IsAbout of state seat → StandsInBase of.base x place → now.table_id ≡ seat.table_id → step.word ≡ of.shape.cells + place → Began step seat.me found now.me → FirstRow (homes_of of.shape) x found (state_of new) note → HasBegun of x seat now new note
has_begun of state seat now x place step found new note about seated table word_is told row =
    let same = shape_of_seat of state seat about in
    let here = subst (λ (l : List ℕ). StandsInBase l x place) (sym (ap (λ (v : SharedWords). v.base) about.belongs)) seated in
    let flagged = flagged_is seat.me.0 x place step.word here (word_is ∙ ap (λ (h : Shape). h.cells + place) (sym same)) in
    record {
      about = still_about of state seat now new told.view about table told.is (after_first of.shape new note step seat.me now.me found same x told flagged row);
      row = first_row_made of.shape new note step seat.me now.me found same x told flagged row;
      again = gone_again of.shape new note step seat.me now.me found same x told flagged row;
    }

-- what a later step leaves of a seat
pub record HasStepped (of : SharedWords) (state : definition.WithdrawState) (seat now : OneSeat) (new : WithdrawState) (note : WithdrawNote) : Type 0 where
  pub about : IsAbout of (state_of new) now
  pub row : MakesRow (homes_of of.shape) seat.me.0.view note now.me.0.view
  pub falls : Falls (withdraw_measure of.shape.cells (state_of new)) (withdraw_measure of.shape.cells state)

pub has_stepped : (of : SharedWords) (state : definition.WithdrawState) (seat now : OneSeat) (step : Step (Unit {0})) (found : ℕ) (new : WithdrawState) (note : WithdrawNote) → IsAbout of state seat → now.table_id ≡ seat.table_id → TookNextRow step seat.me found now.me → LeadsTo (homes_of of.shape) state found (state_of new) note → HasStepped of state seat now new note
has_stepped of state seat now step found new note about table told leads =
    let same = shape_of_seat of state seat about in
    let row = subst (λ (s : definition.WithdrawState). LeadsTo (homes_of of.shape) s found (state_of new) note) (sym about.state_is) leads in
    let end = (same_later of.shape new note step seat.me now.me found same told row).0 in
    record {
      about = still_about of state seat now new told.view about table told.is (after_later of.shape new note step seat.me now.me found same told row);
      row = row_made of.shape new note step seat.me now.me found same told row;
      falls = subst (λ (s : Shape). Falls (withdraw_measure s.cells (state_of new)) (withdraw_measure s.cells state)) same
          (subst (λ (s : definition.WithdrawState). Falls (withdraw_measure seat.me.0.shape.cells s) (withdraw_measure seat.me.0.shape.cells state)) (sym end)
          (subst (λ (s : definition.WithdrawState). Falls (withdraw_measure seat.me.0.shape.cells told.view.state) (withdraw_measure seat.me.0.shape.cells s)) about.state_is told.told.falls));
    }
