-- Pointers over cells that skip what is full.
use Rattle.std.specs.Prelude.{◌≡◌, ◌≢◌, ℕ, ◌<◌, ◌≤◌, List, length, slice_index}
use Rattle.store_spec.specs.Probe.{IsFilled}

-- there is an empty cell at or after a place
abbrev pub LeavesOneEmpty : List ℕ → ℕ → Type 0
LeavesOneEmpty cells from =
    (place : ℕ) × (from ≤ place) × (place < length cells) × (slice_index cells place ≡ 0)

-- A pointer for each cell. It never leads back, what it skips is full, and from a full cell it leads on.
pub record AreSound (cells onward : List ℕ) : Type 0 where
  pub one_each : length onward ≡ length cells
  pub never_back : (place : ℕ) → place < length cells → place ≤ slice_index onward place
  pub skips_full : (place : ℕ) → place < length cells
      → IsFilled cells place (slice_index onward place)
  pub leads_on : (place : ℕ) → place < length cells → slice_index cells place ≢ 0
      → place < slice_index onward place
