-- Which cell of a damaged bank is the first wrong one.
use Rattle.std.specs.Prelude.{◌≡◌, ℕ, ◌+◌, ◌*◌, ◌<◌, ◌≤◌, List, length, map, take, drop}
use Rattle.std.specs.Int.{from_be_bytes, w64}
use Rattle.std.specs.List.{range_with_len}
use Rattle.store_spec.specs.Ballot.{Ballot, IsBallotSet, IsWithinLimit}
use Rattle.store_spec.specs.Election.{Election, cell_count, cell_size, header_size}
use Rattle.store_spec.specs.Home.{home_in}
use Rattle.store_spec.specs.Image.{IsCellOf, IsEmptyCell, image_of}
use Rattle.store_spec.specs.Layout.{numbers_in}

-- the bytes of so many first cells of a bank
abbrev pub first_cells : Election → ℕ → List ℕ → List ℕ
first_cells e count bank = take (count * cell_size e) (drop header_size bank)

-- so many first cells of the bank are those of the image of some set
abbrev pub BeginsAnImage : Election → ℕ → List ℕ → Type 0
BeginsAnImage e count bank =
    (ballots : List Ballot) × IsBallotSet e ballots × IsWithinLimit e ballots
    × (first_cells e count bank ≡ first_cells e count (image_of e ballots))

-- the least cell for which the cells up to it, and it, begin the image of no set
pub record IsFirstWrong (e : Election) (bank : List ℕ) (cell : ℕ) : Type 0 where
  pub within : cell < cell_count e
  pub wrong : ¬ BeginsAnImage e (cell + 1) bank
  pub least : (before : ℕ) → before < cell → BeginsAnImage e (before + 1) bank

-- ---- the same cell by four tests, one cell after another

-- the bytes of one cell
abbrev pub cell_at : Election → ℕ → List ℕ → List ℕ
cell_at e cell bank = take (cell_size e) (drop (header_size + cell * cell_size e) bank)

-- the number at the front of a cell
abbrev pub number_at : List ℕ → ℕ
number_at bytes = from_be_bytes w64 (take 8 bytes)

-- the numbers in so many first cells, 0 in an empty one
abbrev pub first_numbers : Election → ℕ → List ℕ → List ℕ
first_numbers e count bank = map (λ cell. number_at (cell_at e cell bank)) (range_with_len 0 count)

-- What is wrong with a cell: its bytes are neither empty nor a valid ballot's; the home of its ballot is past it; a
-- cell from the home up to it holds no greater number; or its ballot is one more than the store may hold.
pub data Test : Type 0 where
  Bytes : Test
  Home : Test
  Order : Test
  Limit : Test

abbrev pub Fails : Election → List ℕ → ℕ → Test → Type 0
Fails e bank cell Bytes =
    ¬ IsEmptyCell e (cell_at e cell bank) × ((b : Ballot) → ¬ IsCellOf e (cell_at e cell bank) b)
Fails e bank cell Home =
    (b : Ballot) × IsCellOf e (cell_at e cell bank) b × (cell < home_in e b.number)
Fails e bank cell Order =
    (b : Ballot) × IsCellOf e (cell_at e cell bank) b
    × ((before : ℕ) × (home_in e b.number ≤ before) × (before < cell)
    × (number_at (cell_at e before bank) ≤ b.number))
Fails e bank cell Limit =
    (b : Ballot) × IsCellOf e (cell_at e cell bank) b
    × (e.limit ≤ length (numbers_in (first_numbers e cell bank)))

abbrev pub IsWrongCell : Election → List ℕ → ℕ → Type 0
IsWrongCell e bank cell = (test : Test) × Fails e bank cell test

-- the first cell that fails a test
pub record IsFirstFailing (e : Election) (bank : List ℕ) (cell : ℕ) : Type 0 where
  pub within : cell < cell_count e
  pub wrong : IsWrongCell e bank cell
  pub least : (before : ℕ) → before < cell → ¬ IsWrongCell e bank before
