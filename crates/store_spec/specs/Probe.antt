-- Where linear probing finds an empty cell.
use Rattle.std.specs.Prelude.{◌≡◌, ◌≢◌, ℕ, ◌<◌, ◌≤◌, List, length, slice_index}

-- all cells from one place up to another are filled
abbrev pub IsFilled : List ℕ → ℕ → ℕ → Type 0
IsFilled cells from to = (place : ℕ) → from ≤ place → place < to → slice_index cells place ≢ 0

-- the first empty cell at or after a place
pub record IsFirstEmpty (cells : List ℕ) (from place : ℕ) : Type 0 where
  pub after : from ≤ place
  pub within : place < length cells
  pub empty : slice_index cells place ≡ 0
  pub full : IsFilled cells from place
