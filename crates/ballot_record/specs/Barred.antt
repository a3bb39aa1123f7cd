-- The choices that the ballots of a style may not mark, byte by byte where they would stand in a cell.
use Rattle.std.specs.Prelude.{◌≡◌, ℕ, ◌+◌, ◌-◌, ◌*◌, ◌^◌, ◌<◌, List, Some, bit_and, length, min, slice_get, slice_index}
use Rattle.ballot_record.specs.Format.{largest_cell}
use Rattle.ballot_record.specs.declared.barred.Barred.{Barred}
use Rattle.store_spec.specs.Election.{Election, choices_on, front_size, set_width}

-- the choices behind the first so many, in a mark set's byte that has so many bytes behind it
abbrev pub barred_byte : ℕ → ℕ → ℕ
barred_byte choices behind = 2 ^ 8 - 2 ^ min 8 (choices - 8 * behind)

-- the same in each byte of a mark set, which has so many and begins at a place of a row
abbrev pub BarsBehind : ℕ → ℕ → ℕ → List ℕ → Type 0
BarsBehind choices width from row =
    (byte : ℕ) → byte < width → slice_index row (from + byte) ≡ barred_byte choices (width - 1 - byte)

-- nothing in front of the mark sets, and of each contest the choices that it does not offer on a style
pub record IsBarredOn (e : Election) (style : ℕ) (row : List ℕ) : Type 0 where
  pub front : (k : ℕ) → k < front_size → slice_index row k ≡ 0
  pub sets : (place : ℕ) → place < length e.contests
      → BarsBehind (choices_on e style (place + 1)) (set_width e) (front_size + set_width e * place) row

-- a row for each style
pub record AreBarred (e : Election) (barred : Barred) : Type 0 where
  pub count : length barred.rows.items ≡ length e.styles
  pub each : (place : ℕ) (row : List ℕ) → slice_get barred.rows.items place ≡ Some row
      → (length row ≡ largest_cell) × IsBarredOn e (place + 1) row

-- none of these bytes has a bit that is barred in its place
abbrev pub HaveNone : List ℕ → List ℕ → Type 0
HaveNone bytes barred =
    (k : ℕ) → k < length bytes → bit_and (slice_index bytes k) (slice_index barred k) ≡ 0
