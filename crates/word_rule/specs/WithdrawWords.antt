-- Shared words of withdrawing and their seats, as callers see them.
use Rattle.std.specs.Prelude.{◌≡◌, ℕ, ◌+◌, ◌^◌, ◌<◌, ◌≤◌, List, length, map, All, Contains}
use Rattle.atomic_table.specs.declared.shared.Seat.{Seat}
use Rattle.step_core.specs.Shape.{homes_of}
use Rattle.step_core.specs.WithdrawTables.{FitsIn, state_of}
use Rattle.step_core.specs.declared.shape.Shape.{Shape}
use Rattle.step_core.specs.declared.withdraw.WithdrawState as states
use Rattle.store_spec.specs.Layout.{layout_of, numbers_in}
use Rattle.store_spec.specs.WithdrawInvariant.{IsBase, IsOfBase, begun_by, times}
use Rattle.store_spec.specs.WithdrawPhase.{without}
use Rattle.store_spec.specs.WithdrawStep.{FirstRow, WithdrawState, WithdrawView, withdraw_number, withdraw_view_after}
use Rattle.store_spec.specs.WithdrawStep as definition
use Rattle.step_core.specs.WithdrawTables.{LeadsTo}
use Rattle.word_rule.specs.Chain.{Chain}
use Rattle.word_rule.specs.Places.{IsSingle, Place}
use Rattle.word_rule.specs.Seats.{SharedWords, words_of}
use Rattle.word_rule.specs.declared.seats.Known.{Known}

-- what words may be made of: ordered cells, of which the last is empty, with a flag for each
pub record MayEmpty (shape : Shape) (cells : List ℕ) : Type 0 where
  pub base : IsBase (homes_of shape) cells
  pub size : length cells ≡ shape.cells
  pub some : 0 < shape.cells
  pub small : shape.cells + shape.cells < 2 ^ 32
  pub no_claims : shape.claims ≡ 0

-- the row of the first step for a number, by the flag that is found, and the list that its note names grows by the number
pub record MakesFirstRow (home : ℕ → ℕ) (x : ℕ) (old : WithdrawView) (note : definition.WithdrawNote) (now : WithdrawView) : Type 0 where
  pub found : ℕ
  pub leads : FirstRow home x found now.state note
  pub is : now ≡ withdraw_view_after old x now.state note

-- the row of the table for what is found, and the list that its note names grows by the number
pub record MakesRow (home : ℕ → ℕ) (old : WithdrawView) (note : definition.WithdrawNote) (now : WithdrawView) : Type 0 where
  pub found : ℕ
  pub leads : LeadsTo home old.state found now.state note
  pub is : now ≡ withdraw_view_after old (withdraw_number old.state) now.state note

-- A chain of rows for a number: its first step, which finds the flag of its cell, and then a row from each state that a
-- step led to. Each row names a word that the step found.
abbrev pub WithdrawsByRows : (ℕ → ℕ) → ℕ → WithdrawView → WithdrawView → Type 0
WithdrawsByRows home x old now = Chain (MakesFirstRow home x) (MakesRow home) old now

-- the numbers whose removal seats have begun
abbrev pub begun_at : List (Place WithdrawView) → List ℕ
begun_at seats = begun_by (map (λ seat. seat.view) seats)

-- What the lists of all seats are like at the end. A removal was begun of numbers that stood in the cells, and of each
-- once, and one that was found gone is one of them.
pub record AgreeOn (words : SharedWords) (seats : List (Place WithdrawView)) : Type 0 where
  pub held : All (IsOfBase words.base) (begun_at seats)
  pub once : (x : ℕ) → times (begun_at seats) x ≤ 1
  pub gone : All (λ seat. All (Contains (begun_at seats)) seat.view.gone) seats

-- the cells at the end: the layout of what was held without what was begun
abbrev pub cells_after : SharedWords → List (Place WithdrawView) → List ℕ
cells_after words seats = layout_of (homes_of words.shape) words.shape.cells (without (numbers_in words.base) (begun_at seats))

-- ---- how words and seats are kept

-- the state in memory is that of the seat
pub record StandsFor (shape : Shape) (standing : states.WithdrawState) (view : WithdrawView) : Type 0 where
  pub state : state_of standing ≡ view.state
  pub fits : FitsIn shape.cells view.state

-- a seat of these words that is about this state
pub record IsAbout (of : SharedWords) (state : WithdrawState) (seat : Seat (Unit {0}) (Known WithdrawView)) : Type 0 where
  pub belongs : words_of seat.table_id seat.me.0 ≡ of
  pub state_is : seat.me.0.view.state ≡ state
  pub single : IsSingle seat
  pub fits : FitsIn of.shape.cells state
