-- Where the numbers of a set stand: linear probing by priority, which is history-independent
-- (Blelloch and Golovin, FOCS 2007). Of two numbers the greater comes first, and 0 is an empty cell.
use Rattle.std.specs.Prelude.{◌≡◌, ◌≢◌, ℕ, zero, suc, ◌<◌, ◌≤◌, nat_le, ◌==◌, if◌then◌else◌, List, [], ◌∷◌, ◌+◌, ◌-◌, length, replicate, filter, not, slice_index, All, AllPairs, Contains}

-- the numbers of a list in ascending order
abbrev pub put_in_order : ℕ → List ℕ → List ℕ
put_in_order v [] = v ∷ []
put_in_order v (w ∷ ws) = if nat_le v w then v ∷ w ∷ ws else w ∷ put_in_order v ws

abbrev pub ascending : List ℕ → List ℕ
ascending [] = []
ascending (v ∷ vs) = put_in_order v (ascending vs)

-- cells after v is put into the first empty one at or after a place
abbrev pub placed : ℕ → ℕ → List ℕ → List ℕ
placed v place [] = []
placed v zero (cell ∷ cells) = if cell == 0 then v ∷ cells else cell ∷ placed v zero cells
placed v (suc place) (cell ∷ cells) = cell ∷ placed v place cells

-- so many cells with these numbers, ascending, each put in after all greater ones
abbrev pub laid_out : (ℕ → ℕ) → ℕ → List ℕ → List ℕ
laid_out home count [] = replicate count 0
laid_out home count (v ∷ greater) = placed v (home v) (laid_out home count greater)

-- The layout of a set of numbers, listed in any order: they are taken from the greatest down, and each goes into
-- the first cell from its home on that is still empty.
abbrev pub layout_of : (ℕ → ℕ) → ℕ → List ℕ → List ℕ
layout_of home count numbers = laid_out home count (ascending numbers)

-- The ordering invariant (Shun and Blelloch, SPAA 2014): a number stands at its home or after it, and each cell
-- from its home up to it holds a greater number.
pub record IsOrdered (home : ℕ → ℕ) (cells : List ℕ) : Type 0 where
  pub from_home : (place : ℕ) → slice_index cells place ≢ 0 → home (slice_index cells place) ≤ place
  pub greater_before : (place before : ℕ) → slice_index cells place ≢ 0
      → home (slice_index cells place) ≤ before → before < place
      → slice_index cells place < slice_index cells before

-- what it says of one number and the place where it stands, or is to stand
pub record MayStand (home : ℕ → ℕ) (cells : List ℕ) (v place : ℕ) : Type 0 where
  pub from_home : home v ≤ place
  pub greater_before : (before : ℕ) → home v ≤ before → before < place
      → v < slice_index cells before

-- each of the numbers stands in some cell, and what stands in a cell is one of them or 0
pub record HoldsExactly (cells numbers : List ℕ) : Type 0 where
  pub each : (v : ℕ) → Contains numbers v → Contains cells v
  pub only : (v : ℕ) → v ≢ 0 → Contains cells v → Contains numbers v

-- Distinct numbers that are not 0, with so many homes, and room: a cell for each home and for each number.
-- Then each number finds a cell at or after its home, and one is left after the last.
pub record HasRoom (home : ℕ → ℕ) (homes count : ℕ) (numbers : List ℕ) : Type 0 where
  pub distinct : AllPairs (λ a b. a ≢ b) numbers
  pub some : All (λ v. v ≢ 0) numbers
  pub homed : All (λ v. home v < homes) numbers
  pub room : homes + length numbers ≤ count

-- the numbers that stand in some cells, in the order of the cells
abbrev pub numbers_in : List ℕ → List ℕ
numbers_in cells = filter (λ cell. not (cell == 0)) cells

-- what a layout is like, however it was made
pub record IsLayout (home : ℕ → ℕ) (count : ℕ) (numbers cells : List ℕ) : Type 0 where
  pub size : length cells ≡ count
  pub ordered : IsOrdered home cells
  pub exactly : HoldsExactly cells numbers
  pub last_empty : slice_index cells (count - 1) ≡ 0
