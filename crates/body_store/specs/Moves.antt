-- How the bytes of an image are changed in place: which bytes wait, and in which cells they belong.
use Rattle.std.specs.Prelude.{◌≡◌, ◌≢◌, ◌⊎◌, ℕ, ◌+◌, ◌-◌, ◌*◌, ◌<◌, ◌≤◌, ◌++◌, List, All, Contains, drop, flat_map, length, map, replicate, slice_get, slice_index, take}
use Rattle.body_store.specs.declared.moves.Move.{Move}
use Rattle.body_store.specs.declared.moves.Near.{Near}
use Rattle.body_store.specs.declared.moves.Near.TheVariants.{At, Nowhere, Far}
use Rattle.body_store.specs.declared.moves.Plan.{Plan}
use Rattle.body_store.specs.declared.moves.Waiting.{Waiting}
use Rattle.layout_def.specs.declared.changes.CellChange.{CellChange}
use Rattle.store_spec.specs.Ballot.{Ballot, IsValid, numbers_of}
use Rattle.store_spec.specs.Damage.{cell_at}
use Rattle.store_spec.specs.Election.{Election, IsElection, cell_size, header_size, most_ballots, most_cells}
use Rattle.store_spec.specs.Image.{ballot_bytes}
use Rattle.store_spec.specs.Layout.{IsOrdered}

-- what a search near its home says of a number
abbrev pub IsNear : List ℕ → ℕ → Near → Type 0
IsNear cells number (At cell) = (cell < length cells) × (slice_index cells cell ≡ number)
IsNear cells number Nowhere = ¬ Contains cells number
IsNear cells number Far = Unit {0}

-- the bytes of a number's cell wait from one of the bytes on
pub record Waits (f : ℕ → List ℕ) (bytes : List ℕ) (from number : ℕ) : Type 0 where
  pub within : from + length (f number) ≤ length bytes
  pub same : take (length (f number)) (drop from bytes) ≡ f number

-- they wait at a place, counted in cells, among the bytes of new ballots, which stand in front, or behind these
abbrev pub WaitsIn : (ℕ → List ℕ) → List ℕ → List ℕ → ℕ → ℕ → Type 0
WaitsIn f front bytes place number =
    let from = place * length (f number) in
    Waits f front from number ⊎ ((length front ≤ from) × Waits f bytes (from - length front) number)

-- the place behind one at which bytes were put behind others, or that one where none were
abbrev pub IsNextPlace : ℕ → List ℕ → List ℕ → ℕ → List ℕ → Type 0
IsNextPlace place old bytes next new = ((next ≡ place) × (new ≡ old)) ⊎ ((next ≡ place + 1) × (new ≡ old ++ bytes))

-- what waits for a cell is the bytes of the number that it is to have
pub record IsRightMove (f : ℕ → List ℕ) (cells front bytes : List ℕ) (move : Move) : Type 0 where
  pub within : move.cell < length cells
  pub waits : WaitsIn f front bytes move.from (slice_index cells move.cell)

-- what waits for cells, and for numbers that are far from their homes
pub record AreRight (f : ℕ → List ℕ) (cells front bytes : List ℕ) (moves : List Move) (far : List Waiting) : Type 0 where
  pub each_move : All (IsRightMove f cells front bytes) moves
  pub each_far : All (λ one. WaitsIn f front bytes one.from one.number) far

abbrev pub IsRight : (ℕ → List ℕ) → List ℕ → List ℕ → Plan → Type 0
IsRight f cells front plan = AreRight f cells front plan.bytes.items plan.moves.items plan.far.items

-- a cell has a number that it did not have
pub record HasNew (old cells : List ℕ) (cell : ℕ) : Type 0 where
  pub within : cell < length cells
  pub some : slice_index cells cell ≢ 0
  pub other : slice_index old cell ≢ slice_index cells cell

-- a cell is empty that had a number
pub record IsLeft (old cells : List ℕ) (cell : ℕ) : Type 0 where
  pub empty : slice_index cells cell ≡ 0
  pub some : slice_index old cell ≢ 0

-- something is to be written in a cell
abbrev pub IsMoved : List Move → ℕ → Type 0
IsMoved moves cell = Contains (map (λ move. move.cell) moves) cell

-- a number is one of those that are far from their homes
abbrev pub AwaitsCell : List Waiting → ℕ → Type 0
AwaitsCell far number = Contains (map (λ one. one.number) far) number

-- something is to be written in a cell, or its number is far from its home
abbrev pub IsNoted : List ℕ → Plan → ℕ → Type 0
IsNoted cells plan cell = IsMoved plan.moves.items cell ⊎ AwaitsCell plan.far.items (slice_index cells cell)

-- cells that were noted are noted still
abbrev pub StayNoted : List ℕ → Plan → Plan → Type 0
StayNoted cells old new = (cell : ℕ) → IsNoted cells old cell → IsNoted cells new cell

-- the cells with a number are noted
abbrev pub IsSought : List ℕ → Plan → ℕ → Type 0
IsSought cells plan number = (cell : ℕ) → slice_index cells cell ≡ number → IsNoted cells plan cell

-- of cells that changed, with the numbers that they had: the cells where these stand now are noted
abbrev pub AreSought : List ℕ → Plan → List CellChange → Type 0
AreSought cells plan changes = All (λ change. change.number ≢ 0 → IsSought cells plan change.number) changes

-- the bytes of one cell, where each has so many
abbrev pub cell_in : ℕ → ℕ → List ℕ → List ℕ
cell_in size cell image = take size (drop (header_size + cell * size) image)

-- the cells of an image have the bytes of their numbers
pub record AreImageCells (e : Election) (f : ℕ → List ℕ) (cells image : List ℕ) : Type 0 where
  pub long : length image ≡ header_size + length cells * cell_size e
  pub each : (cell : ℕ) → cell < length cells → cell_at e cell image ≡ f (slice_index cells cell)

-- What an image was: the number in each of its cells, and the bytes of the cell of each number.
pub record Earlier : Type 0 where
  pub numbers : List ℕ
  pub bytes_of : ℕ → List ℕ

-- The new ballots of a close: their election, the bytes of the cell of each number, all of them in their order, and the
-- number that each cell had before they came.
pub record Arrivals : Type 0 where
  pub election : Election
  pub bytes_of : ℕ → List ℕ
  pub ballots : List Ballot
  pub before : List ℕ

-- the bytes of their cells, one behind another
abbrev pub arriving_bytes : Arrivals → List ℕ
arriving_bytes new = flat_map (ballot_bytes new.election) new.ballots

-- they are valid and not too many, and their cells have the bytes of their numbers
pub record AreArrivals (new : Arrivals) : Type 0 where
  pub election : IsElection new.election
  pub wide : (number : ℕ) → length (new.bytes_of number) ≡ cell_size new.election
  pub each : All (λ b. IsValid new.election b × (ballot_bytes new.election b ≡ new.bytes_of b.number)) new.ballots
  pub few : length new.ballots ≤ most_ballots

-- a list of ballots stands among others from one on
pub record StandsFrom (first : ℕ) (some all : List Ballot) : Type 0 where
  pub within : first + length some ≤ length all
  pub each : (place : ℕ) → place < length some → slice_get all (first + place) ≡ slice_get some place

-- The bytes of an image's cells are those of their numbers, and other cells are to be written over them: each number in
-- these stands in one of the old cells, or is that of a new ballot.
pub record IsRelay (e : Election) (f : ℕ → List ℕ) (home : ℕ → ℕ) (ballots : List Ballot)
    (old_cells cells image : List ℕ) : Type 0 where
  pub election : IsElection e
  pub wide : (number : ℕ) → length (f number) ≡ cell_size e
  pub blank : f 0 ≡ replicate (cell_size e) 0
  pub new_ballots : All (λ b. IsValid e b × (ballot_bytes e b ≡ f b.number)) ballots
  pub as_many : length old_cells ≡ length cells
  pub before : AreImageCells e f old_cells image
  pub known : (cell : ℕ) → slice_index cells cell ≢ 0
      → Contains old_cells (slice_index cells cell) ⊎ Contains (numbers_of ballots) (slice_index cells cell)
  pub ordered : IsOrdered home cells
  pub few_cells : length cells ≤ most_cells
  pub few_ballots : length ballots ≤ most_ballots
