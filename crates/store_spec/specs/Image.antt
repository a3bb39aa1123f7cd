-- The bytes of a bank: a header, and the cells of the layout in order. All numbers are big-endian.
use Rattle.std.specs.Prelude.{◌≡◌, ℕ, List, ◌++◌, length, take, replicate, flat_map, codes}
use Rattle.std.specs.Int.{to_be_bytes, bytes_high_first, w8, w16, w32, w64}
use Rattle.std.specs.Option.{option_map_or}
use Rattle.store_spec.specs.Ballot.{Ballot, IsBallotSet, IsValid, IsWithinLimit, ballot_of, numbers_of}
use Rattle.store_spec.specs.Election.{Election, cell_count, cell_size, set_width}
use Rattle.store_spec.specs.Home.{home_in}
use Rattle.store_spec.specs.Layout.{layout_of}

-- the mark, the version, and what of the election lays out the store
unfoldable pub header_of : Election → List ℕ
header_of e =
    codes "HIBSTORE" ++ to_be_bytes w16 e.version ++ to_be_bytes w8 e.bits
    ++ to_be_bytes w8 (length e.contests) ++ to_be_bytes w32 e.limit ++ to_be_bytes w64 e.salt
    ++ replicate 8 0

abbrev pub set_bytes : Election → ℕ → List ℕ
set_bytes e set = bytes_high_first (set_width e) set

-- a ballot in a cell: its number, its style, and the mark set of each contest
unfoldable pub ballot_bytes : Election → Ballot → List ℕ
ballot_bytes e b =
    to_be_bytes w64 b.number ++ to_be_bytes w8 b.style
    ++ flat_map (set_bytes e) (take (length e.contests) b.marks)

abbrev pub IsEmptyCell : Election → List ℕ → Type 0
IsEmptyCell e bytes = bytes ≡ replicate (cell_size e) 0

-- the bytes are the cell of this ballot, which is valid
abbrev pub IsCellOf : Election → List ℕ → Ballot → Type 0
IsCellOf e bytes b = IsValid e b × (bytes ≡ ballot_bytes e b)

-- the cell of the ballot with this number, or zeros where no ballot has it
abbrev pub cell_bytes : Election → List Ballot → ℕ → List ℕ
cell_bytes e ballots number =
    option_map_or (ballot_bytes e) (ballot_of ballots number) (replicate (cell_size e) 0)

-- the cells of a set of ballots, each a number or 0
abbrev pub cells_of : Election → List Ballot → List ℕ
cells_of e ballots = layout_of (home_in e) (cell_count e) (numbers_of ballots)

-- the image of a set of ballots, listed in any order
abbrev pub image_of : Election → List Ballot → List ℕ
image_of e ballots = header_of e ++ flat_map (cell_bytes e ballots) (cells_of e ballots)

-- the bank holds this set, which is one that the election's store may hold
pub record IsImageOf (e : Election) (bank : List ℕ) (ballots : List Ballot) : Type 0 where
  pub set : IsBallotSet e ballots
  pub within_limit : IsWithinLimit e ballots
  pub bytes : bank ≡ image_of e ballots
