-- The state and the note that the tables give for what a step found are those that the rule gave the seat.
use Rattle.std.proofs.Common.{◌≡◌, ℕ, ◌+◌, ◌-◌, ◌==◌, ◌⊎◌, if◌then◌else◌, get_or, refl, sym, ◌∙◌, ap, subst, arith}
use Rattle.store_spec.proofs.Common.{Chosen, Contains, FirstRow, Gone, Quiet, StandsInBase, WithdrawNote, WithdrawView, chose, found_gone, left_by, withdraw_act, withdraw_number, withdraw_view_after, word_of}
use Rattle.atomic_table.specs.Table.{Me, Step}
use Rattle.step_core.proofs.WithdrawOneRow.{one_row}
use Rattle.step_core.specs.Shape.{homes_of}
use Rattle.step_core.specs.WithdrawTables.{FitsIn, LeadsTo, state_of}
use Rattle.step_core.specs.declared.shape.Shape.{Shape}
use Rattle.step_core.specs.declared.withdraw.WithdrawState.{WithdrawState}
use Rattle.store_spec.specs.WithdrawStep.WithdrawState.{Rest}
use Rattle.store_spec.specs.WithdrawStep as definition
use Rattle.word_rule.specs.WithdrawSeats.{Began, TookNextRow, flagged_by}
use Rattle.word_rule.specs.WithdrawWords.{MakesFirstRow, MakesRow}
use Rattle.word_rule.specs.declared.seats.Known.{Known}

-- the row of a flag
flag_row : (home : ℕ → ℕ) (x found : ℕ) (new : definition.WithdrawState) (note : WithdrawNote) → FirstRow home x found new note → (new ≡ (if found == 1 then Rest else Chosen x (home x))) × (note ≡ (if found == 1 then Gone else Quiet))
flag_row home x _ _ _ found_gone = (refl, refl)
flag_row home x _ _ _ chose = (refl, refl)

first_row : (home : ℕ → ℕ) (x found : ℕ) (a b : definition.WithdrawState) (m n : WithdrawNote) → FirstRow home x found a m → FirstRow home x found b n → (a ≡ b) × (m ≡ n)
first_row home x found a b m n one two =
    let p = flag_row home x found a m one in
    let q = flag_row home x found b n two in
    (p.0 ∙ sym q.0, p.1 ∙ sym q.1)

-- what is kept of a seat after a step to this state
pub record SeatAfter (state : WithdrawState) (me now : Me (Unit {0}) (Known WithdrawView)) : Type 0 where
  pub same_state : state_of state ≡ now.0.view.state
  pub holds : now.1 ≡ me.1
  pub weight : now.0.weight ≡ me.0.weight
  pub fits : FitsIn now.0.shape.cells now.0.view.state

-- a cell's flag is that of the number which the cell held
pub flagged_is : (known : Known WithdrawView) (x cell word : ℕ) → StandsInBase known.base x cell → word ≡ known.shape.cells + cell → flagged_by known word ≡ x
flagged_is known x cell word seated is = ap (λ (k : ℕ). get_or known.base k 0) (let k : word - known.shape.cells ≡ cell = omega arith in k) ∙ seated.stands

module _ (shape : Shape) (state : WithdrawState) (note : WithdrawNote) (step : Step (Unit {0})) (me now : Me (Unit {0}) (Known WithdrawView)) (found : ℕ) (same : me.0.shape ≡ shape) where
  -- a step to the state that is stored
  arrives : (view : WithdrawView) → now ≡ (record me.0 { view = view }, me.1) → state_of state ≡ view.state → FitsIn me.0.shape.cells view.state → SeatAfter state me now
  arrives view is at fits = record {
    same_state = at ∙ ap (λ m. m.0.view.state) (sym is);
    holds = ap (λ m. m.1) is;
    weight = ap (λ m. m.0.weight) is;
    fits = subst (λ (m : Me (Unit {0}) (Known WithdrawView)). FitsIn m.0.shape.cells m.0.view.state) (sym is) fits;
  }

  module _ (x : ℕ) (told : Began step me found now) (flagged : flagged_by me.0 step.word ≡ x) (row : FirstRow (homes_of shape) x found (state_of state) note) where
    same_first : (state_of state ≡ told.view.state) × (note ≡ told.told.note)
    same_first = first_row (homes_of shape) x found (state_of state) told.view.state note told.told.note row
        (subst (λ (h : Shape). FirstRow (homes_of h) x found told.view.state told.told.note) same
        (subst (λ (n : ℕ). FirstRow (homes_of me.0.shape) n found told.view.state told.told.note) flagged told.told.row))

    pub after_first : SeatAfter state me now
    after_first = arrives told.view told.is same_first.0 told.told.fits

    pub first_row_made : MakesFirstRow (homes_of shape) x me.0.view note now.0.view
    first_row_made = record {
      found = found;
      leads = subst (λ s. FirstRow (homes_of shape) x found s note) after_first.same_state row;
      is =
          ap (λ m. m.0.view) told.is ∙ told.told.is
          ∙ ap (λ (n : ℕ). withdraw_view_after me.0.view n told.view.state told.told.note) flagged
          ∙ ap (λ n. withdraw_view_after me.0.view x told.view.state n) (sym same_first.1)
          ∙ ap (λ m. withdraw_view_after me.0.view x m.0.view.state note) (sym told.is);
    }

    -- a number that was taken here before is found gone
    pub gone_again : Contains me.0.view.begun x ⊎ Contains me.0.view.gone x → note ≡ Gone
    gone_again taken =
        let set : found ≡ 1 = subst (λ (n : ℕ). Contains me.0.view.begun n ⊎ Contains me.0.view.gone n → found ≡ 1) flagged told.told.again taken in
        (flag_row (homes_of shape) x found (state_of state) note row).1 ∙ ap (λ (f : ℕ). if f == 1 then Gone else Quiet) set

  module _ (told : TookNextRow step me found now) (row : LeadsTo (homes_of shape) me.0.view.state found (state_of state) note) where
    pub same_later : (state_of state ≡ told.view.state) × (note ≡ told.told.note)
    same_later =
        let act = withdraw_act me.0.view.state in
        let one = one_row (homes_of shape) me.0.view.state (word_of act) (word_of act) found (left_by act found) (left_by act found) (state_of state) told.view.state note told.told.note row
        (subst (λ (h : Shape). LeadsTo (homes_of h) me.0.view.state found told.view.state told.told.note) same told.told.row) in
        (one.2, one.3)

    pub after_later : SeatAfter state me now
    after_later = arrives told.view told.is same_later.0 told.told.fits

    pub row_made : MakesRow (homes_of shape) me.0.view note now.0.view
    row_made = record {
      found = found;
      leads = subst (λ s. LeadsTo (homes_of shape) me.0.view.state found s note) after_later.same_state row;
      is =
          ap (λ m. m.0.view) told.is ∙ told.told.is
          ∙ ap (λ n. withdraw_view_after me.0.view (withdraw_number me.0.view.state) told.view.state n) (sym same_later.1)
          ∙ ap (λ m. withdraw_view_after me.0.view (withdraw_number me.0.view.state) m.0.view.state note) (sym told.is);
    }
