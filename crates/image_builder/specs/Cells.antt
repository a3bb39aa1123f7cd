-- The first cells of a bank, as they are kept once they were judged.
use Rattle.std.specs.Prelude.{◌≡◌, ℕ, ◌+◌, ◌-◌, ◌*◌, ◌<◌, ◌≤◌, List, [], ◌++◌, All, drop, flat_map, length, take, vec_capacity}
use Rattle.ballot_record.specs.Barred.{AreBarred}
use Rattle.body_store.specs.Held.{spelled_in}
use Rattle.image_builder.specs.Feeding.{Completes}
use Rattle.image_builder.specs.Reaches.{AreReaches}
use Rattle.image_builder.specs.Reading.{IsRefusedBank}
use Rattle.image_builder.specs.declared.cells.CellsRead.{CellsRead}
use Rattle.image_builder.specs.declared.read.ImageFault.{ImageFault}
use Rattle.store_spec.specs.Ballot.{Ballot, IsValid, IsWithinLimit, numbers_of}
use Rattle.store_spec.specs.Election.{Election, cell_count, cell_size, header_size}
use Rattle.store_spec.specs.Home.{home_in}
use Rattle.store_spec.specs.Image.{cell_bytes, header_of}
use Rattle.store_spec.specs.Layout.{IsOrdered, numbers_in}

-- the number in each cell, the ballots in them, and a reach for each of these
pub record AreCells (e : Election) (numbers reaches : List ℕ) (ballots : List Ballot) : Type 0 where
  pub ordered : IsOrdered (home_in e) numbers
  pub same : numbers_of ballots ≡ numbers_in numbers
  pub valid : All (IsValid e) ballots
  pub few : IsWithinLimit e ballots
  pub reached : AreReaches numbers reaches

-- the bytes of cells with these numbers
abbrev pub bytes_in : Election → List ℕ → List Ballot → List ℕ
bytes_in e numbers ballots = flat_map (cell_bytes e ballots) numbers

-- a bank up to the end of these cells
abbrev pub front_of : Election → List ℕ → List Ballot → List ℕ
front_of e numbers ballots = header_of e ++ bytes_in e numbers ballots

-- where these first cells end
abbrev pub end_of : Election → List ℕ → ℕ
end_of e numbers = header_size + length numbers * cell_size e

-- the ballots that a bank spells in its first cells, which have these numbers
abbrev pub spelled_ballots : Election → List ℕ → List ℕ → List Ballot
spelled_ballots e numbers bank = spelled_in e numbers (drop header_size bank)

-- the bank has the election's header, and its first cells have these numbers and reaches
pub record AreFirst (e : Election) (numbers reaches bank : List ℕ) : Type 0 where
  pub cells : AreCells e numbers reaches (spelled_ballots e numbers bank)
  pub bytes : take (end_of e numbers) bank ≡ front_of e numbers (spelled_ballots e numbers bank)
  pub within : end_of e numbers ≤ length bank

-- the number in each of the cells that were judged
abbrev pub numbers_read : CellsRead → List ℕ
numbers_read cells = cells.numbers.items

abbrev pub IsRead : Election → CellsRead → List ℕ → Type 0
IsRead e cells bank = AreFirst e (numbers_read cells) cells.reaches.items bank

abbrev pub end_read : Election → CellsRead → ℕ
end_read e cells = end_of e (numbers_read cells)

-- room for the number of each cell of a bank, and for a reach for each ballot that a store may hold; and what the styles
-- bar
pub record IsEquipped (e : Election) (cells : CellsRead) : Type 0 where
  pub numbers : cell_count e ≤ vec_capacity cells.numbers
  pub reaches : e.limit ≤ vec_capacity cells.reaches
  pub barred : AreBarred e cells.barred

-- all that is whole in the first bytes of a bank was judged, and is right
pub record AreJudged (e : Election) (cells : CellsRead) (bank : List ℕ) : Type 0 where
  pub waits : length bank < header_size → (numbers_read cells ≡ []) × (cells.reaches.items ≡ [])
  pub first : header_size ≤ length bank → IsRead e cells bank
  pub short : header_size ≤ length bank → length bank < end_read e cells + cell_size e
  pub wide : IsEquipped e cells

-- The last of these bytes makes whole what tells the fault, and every bank that begins with them is refused so.
pub record IsRefusedAt (e : Election) (bytes : List ℕ) (fault : ImageFault) : Type 0 where
  pub completes : Completes e (length bytes - 1) (length bytes) fault
  pub each_bank : (rest : List ℕ) → IsRefusedBank e (bytes ++ rest) fault
