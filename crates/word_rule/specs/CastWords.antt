-- Shared words of casting and their seats, as callers see them.
use Rattle.std.specs.Prelude.{◌≡◌, ◌≢◌, ℕ, ◌+◌, ◌^◌, ◌<◌, ◌≤◌, List, ◌++◌, length, map, All, Contains}
use Rattle.atomic_table.specs.declared.shared.Seat.{Seat}
use Rattle.step_core.specs.CastTables.{BeginsAt, FitsIn, state_of}
use Rattle.step_core.specs.Shape.{homes_of, table_of}
use Rattle.step_core.specs.declared.shape.Shape.{Shape}
use Rattle.store_spec.specs.CastInvariant.{EachOnce, accepted_of}
use Rattle.store_spec.specs.CastStep.{CastState, CastView}
use Rattle.store_spec.specs.Layout.{IsOrdered, layout_of, numbers_in}
use Rattle.word_rule.specs.Places.{IsSingle, Place}
use Rattle.word_rule.specs.Seats.{SharedWords, words_of}
use Rattle.word_rule.specs.declared.cast.Standing.{Standing}
use Rattle.word_rule.specs.declared.seats.Known.{Known}

-- what words may be made of: ordered cells, with room for what stands in them, each claim word and each home
pub record MayHold (shape : Shape) (cells : List ℕ) : Type 0 where
  pub ordered : IsOrdered (homes_of shape) cells
  pub size : length cells ≡ shape.cells
  pub small : shape.cells + shape.claims < 2 ^ 32
  pub room : length (numbers_in cells) + shape.claims + 2 ^ shape.order.bits ≤ shape.cells

-- a number that a seat may begin with: it is not 0 and stood in no cell at the opening, and there are claim words
pub record MayBeginWith (words : SharedWords) (number : ℕ) : Type 0 where
  pub some : number ≢ 0
  pub not_held : ¬ Contains (numbers_in words.base) number
  pub claims : words.shape.claims ≢ 0

-- the numbers that seats have accepted
abbrev pub accepted_by : List (Place CastView) → List ℕ
accepted_by seats = accepted_of (map (λ seat. seat.view) seats)

-- What the lists of all seats are like at the end. A number is accepted once and was not held, and each has a claim word.
-- One that was found taken was accepted, and one that met full claim words was not, where as many are accepted as there
-- are claim words.
pub record AgreeOn (words : SharedWords) (seats : List (Place CastView)) : Type 0 where
  pub once : EachOnce (accepted_by seats)
  pub not_held : All (λ x. ¬ Contains (numbers_in words.base) x) (accepted_by seats)
  pub few : length (accepted_by seats) ≤ words.shape.claims
  pub taken : All (λ seat. All (Contains (accepted_by seats)) seat.view.taken) seats
  pub full : All (λ seat. All (λ x. (¬ Contains (accepted_by seats) x) × (length (accepted_by seats) ≡ words.shape.claims)) seat.view.full) seats

-- the cells at the end: the layout of what was held and what was accepted
abbrev pub cells_after : SharedWords → List (Place CastView) → List ℕ
cells_after words seats = layout_of (homes_of words.shape) words.shape.cells (numbers_in words.base ++ accepted_by seats)

-- ---- how words and seats are kept

-- The state in memory is that of the seat, and a number that looks for a claim word began at the one that is kept with it.
pub record StandsFor (shape : Shape) (standing : Standing) (view : CastView) : Type 0 where
  pub state : state_of standing.state ≡ view.state
  pub first : BeginsAt (table_of shape) view.state standing.first
  pub fits : FitsIn (table_of shape) view.state

-- a seat of these words that is about this state
pub record IsAbout (of : SharedWords) (state : CastState) (seat : Seat (Unit {0}) (Known CastView)) : Type 0 where
  pub belongs : words_of seat.table_id seat.me.0 ≡ of
  pub state_is : seat.me.0.view.state ≡ state
  pub single : IsSingle seat
  pub fits : FitsIn (table_of of.shape) state
