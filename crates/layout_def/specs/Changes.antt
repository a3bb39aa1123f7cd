-- Which cells have other numbers in one list of cells than in another.
use Rattle.std.specs.Prelude.{◌≡◌, ◌≢◌, ℕ, ◌+◌, ◌<◌, ◌≤◌, List, All, AllPairs, Contains, length, map, slice_index}
use Rattle.layout_def.specs.declared.changes.CellChange.{CellChange}

-- Changes among so many first cells, in their order: each says which number a cell has in the second list, and a cell that
-- has another there than in the first is among them.
pub record AreChangesUpTo (old new : List ℕ) (count : ℕ) (changes : List CellChange) : Type 0 where
  pub each : All (λ change. (change.cell < count) × (slice_index new change.cell ≡ change.number)) changes
  pub every : (cell : ℕ) → cell < count → slice_index old cell ≢ slice_index new cell
      → Contains (map (λ change. change.cell) changes) cell
  pub rising : AllPairs (λ one other. one.cell < other.cell) changes
  pub few : length changes ≤ count

-- changes among all cells
pub record AreChanges (old new : List ℕ) (changes : List CellChange) : Type 0 where
  pub as_many : length old ≡ length new
  pub up_to : AreChangesUpTo old new (length new) changes

-- some cells stand among others from one on
abbrev pub StandFrom : ℕ → List ℕ → List ℕ → Type 0
StandFrom first some all = (k : ℕ) → k < length some → slice_index all (first + k) ≡ slice_index some k
