-- The cells in which some numbers stand.
use Rattle.std.specs.Prelude.{◌≡◌, ◌≢◌, ℕ, ◌<◌, List, length, slice_index}
use Rattle.std.specs.List.Sorted.{IsNonDecreasing}

-- no number stands in two cells
abbrev pub StandOnce : List ℕ → Type 0
StandOnce cells = (p q : ℕ) → slice_index cells p ≢ 0 → slice_index cells p ≡ slice_index cells q → p ≡ q

-- the cell of each number, of numbers in ascending order
pub record IsCellIndex (cells numbers places : List ℕ) : Type 0 where
  pub in_order : IsNonDecreasing numbers
  pub as_many : length places ≡ length numbers
  pub stands : (rank : ℕ) → rank < length numbers → slice_index cells (slice_index places rank) ≡ slice_index numbers rank

-- the number has this place
pub record HasPlace (numbers places : List ℕ) (number cell : ℕ) : Type 0 where
  pub rank : ℕ
  pub within : rank < length numbers
  pub is : slice_index numbers rank ≡ number
  pub place : slice_index places rank ≡ cell
