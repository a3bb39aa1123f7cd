-- What one step of a seat of withdrawing tells, and what is kept of the words.
use Rattle.std.specs.Prelude.{◌≡◌, ℕ, ◌-◌, ◌≤◌, ◌⊎◌, List, ◌++◌, Contains, slice_index}
use Rattle.atomic_table.specs.Table.{Me, Step}
use Rattle.step_core.specs.Shape.{homes_of}
use Rattle.step_core.specs.WithdrawTables.{FitsIn, LeadsTo, MayFind}
use Rattle.step_core.specs.declared.shape.Shape.{Shape}
use Rattle.store_spec.specs.Measure.{Falls}
use Rattle.store_spec.specs.WithdrawInvariant.{WithdrawInvariant}
use Rattle.store_spec.specs.WithdrawStep.{FirstRow, WithdrawNote, WithdrawView, withdraw_number, withdraw_view_after, withdraw_measure}
use Rattle.store_spec.specs.WithdrawStep.WithdrawState.{Rest}
use Rattle.word_rule.specs.declared.seats.Known.{Known}

-- the withdrawing invariant over the words and all views
abbrev pub IsWithdrawn : Shape → List ℕ → List ℕ → List WithdrawView → Type 0
IsWithdrawn shape base words views = WithdrawInvariant (homes_of shape) base words views

-- the view of a withdrawer that takes in another, both at rest: its lists and then those of the other
abbrev pub joined_withdraw_view : WithdrawView → WithdrawView → WithdrawView
joined_withdraw_view view other = record { state = Rest; begun = view.begun ++ other.begun; gone = view.gone ++ other.gone }

abbrev pub IsAtRest : WithdrawView → Type 0
IsAtRest view = view.state ≡ Rest

-- The first step for a number, by its row. A number that the seat has begun to remove or found gone is found gone.
pub record Begins (home : ℕ → ℕ) (cells x found : ℕ) (old now : WithdrawView) : Type 0 where
  pub flag : found ≤ 1
  pub note : WithdrawNote
  pub row : FirstRow home x found now.state note
  pub is : now ≡ withdraw_view_after old x now.state note
  pub fits : FitsIn cells now.state
  pub again : Contains old.begun x ⊎ Contains old.gone x → found ≡ 1

-- A later step, by its row. Less is left to do.
pub record TakesNextRow (home : ℕ → ℕ) (cells found : ℕ) (old now : WithdrawView) : Type 0 where
  pub may_find : MayFind old.state found
  pub note : WithdrawNote
  pub row : LeadsTo home old.state found now.state note
  pub is : now ≡ withdraw_view_after old (withdraw_number old.state) now.state note
  pub fits : FitsIn cells now.state
  pub falls : Falls (withdraw_measure cells now.state) (withdraw_measure cells old.state)

-- the number whose flag a word is: the one that the cell held at the opening
abbrev pub flagged_by : Known WithdrawView → ℕ → ℕ
flagged_by known word = slice_index known.base (word - known.shape.cells)

-- what a step on a flag tells of the seat: of what it knows, its view alone changes
pub record Began (step : Step (Unit {0})) (me : Me (Unit {0}) (Known WithdrawView)) (found : ℕ) (now : Me (Unit {0}) (Known WithdrawView)) : Type 0 where
  pub view : WithdrawView
  pub is : now ≡ (record me.0 { view = view }, me.1)
  pub told : Begins (homes_of me.0.shape) me.0.shape.cells (flagged_by me.0 step.word) found me.0.view view

-- what a later step tells of it
pub record TookNextRow (step : Step (Unit {0})) (me : Me (Unit {0}) (Known WithdrawView)) (found : ℕ) (now : Me (Unit {0}) (Known WithdrawView)) : Type 0 where
  pub view : WithdrawView
  pub is : now ≡ (record me.0 { view = view }, me.1)
  pub told : TakesNextRow (homes_of me.0.shape) me.0.shape.cells found me.0.view view
