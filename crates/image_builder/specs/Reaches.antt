-- How far back the cells before another one hold greater numbers.
use Rattle.std.specs.Prelude.{◌≡◌, ◌≢◌, ℕ, ◌<◌, ◌≤◌, List, length, slice_index, take}
use Rattle.store_spec.specs.Layout.{numbers_in}

-- all cells from one place up to another hold numbers greater than v
pub record IsReach (cells : List ℕ) (v place from : ℕ) : Type 0 where
  pub before : from ≤ place
  pub greater : (k : ℕ) → from ≤ k → k < place → v < slice_index cells k

-- a reach for each cell that has a number, in the order of these cells
pub record AreReaches (cells reaches : List ℕ) : Type 0 where
  pub count : length reaches ≡ length (numbers_in cells)
  pub each : (place : ℕ) → place < length cells → slice_index cells place ≢ 0
      → IsReach cells (slice_index cells place) place (slice_index reaches (length (numbers_in (take place cells))))
