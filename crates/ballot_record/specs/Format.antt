-- The widths that callers may count on, and how the bytes of a cell are read.
use Rattle.std.specs.Prelude.{◌≡◌, ℕ, zero, suc, ◌+◌, ◌-◌, ◌*◌, ◌^◌, ◌<◌, ◌⊎◌, List, [], ◌∷◌, ◌++◌, length, take, drop, replicate, slice_index}
use Rattle.std.specs.Int.{from_be_bytes, w64}
use Rattle.byteorder.specs.Endian.{big_number}
use Rattle.store_spec.specs.Ballot.{Ballot, MARK_SETS}
use Rattle.store_spec.specs.Election.{Election, choices_on, header_size, most_cells, set_width}

-- the bytes of the number that stands in front of a cell
abbrev pub number_size : ℕ
number_size = 8

-- the most bytes of a cell and of a bank, whatever the election
unfoldable pub largest_cell : ℕ
largest_cell = 201

unfoldable pub largest_bank : ℕ
largest_bank = header_size + most_cells * largest_cell

-- the bytes that a mark set may have: 4, or 8
abbrev pub IsSetWidth : ℕ → Type 0
IsSetWidth width = (width ≡ 4) ⊎ (width ≡ 8)

-- mark sets of so many bytes each, and so many of them
unfoldable pub sets_at : ℕ → ℕ → List ℕ → List ℕ
sets_at width zero bytes = []
sets_at width (suc more) bytes = big_number width bytes ∷ sets_at width more (drop width bytes)

-- the ballot that the bytes of a cell spell, valid or not, with a mark set for each contest
abbrev pub ballot_at : Election → List ℕ → Ballot
ballot_at e bytes = record {
  number = from_be_bytes w64 (take 8 bytes);
  style = slice_index bytes 8;
  marks = sets_at (set_width e) (length e.contests) (drop 9 bytes) ++ replicate (MARK_SETS - length e.contests) 0;
}

-- each of the mark sets that stand here, of so many bytes, has choices of its contest on a style
abbrev pub HaveChoices : Election → ℕ → ℕ → List ℕ → Type 0
HaveChoices e style width bytes =
    (k : ℕ) → k < length e.contests → big_number width (drop (width * k) bytes) < 2 ^ choices_on e style (k + 1)
