-- The first bytes of a bank, as far as a reader was fed them, and why a piece of them is refused.
use Rattle.std.specs.Prelude.{◌≡◌, ℕ, ◌+◌, ◌*◌, ◌<◌, ◌≤◌, List, ◌++◌, length, take}
use Rattle.image_builder.specs.Reading.{IsRefusedBank}
use Rattle.image_builder.specs.declared.read.ImageFault.{ImageFault}
use Rattle.image_builder.specs.declared.read.ImageFault.TheVariants.{OtherElection, Damaged, Memory}
use Rattle.store_spec.specs.Damage.{BeginsAnImage}
use Rattle.store_spec.specs.Election.{Election, bank_size, cell_size, header_size}
use Rattle.store_spec.specs.Image.{header_of}

-- the election whose bank is read, and the bytes so far
pub record Feeding : Type 0 where
  pub election : Election
  pub fed : List ℕ

-- The first bytes of a bank in which nothing is wrong so far: once the header is whole it is the election's, and the
-- cells that are whole begin the image of some set.
pub record IsFront (e : Election) (fed : List ℕ) : Type 0 where
  pub within : length fed ≤ bank_size e
  pub header : header_size ≤ length fed → take header_size fed ≡ header_of e
  pub cells : (count : ℕ) → header_size + count * cell_size e ≤ length fed → BeginsAnImage e count fed

-- Between these two counts of bytes what tells the fault becomes whole: the header, or the wrong cell. None tell want of
-- memory.
abbrev pub Completes : Election → ℕ → ℕ → ImageFault → Type 0
Completes e before after (OtherElection header) = (before < header_size) × (header_size ≤ after)
Completes e before after (Damaged cell) =
    (before < header_size + (cell + 1) * cell_size e) × (header_size + (cell + 1) * cell_size e ≤ after)
Completes e before after Memory = ⊥

-- A piece behind the bytes so far is refused: it completes what tells the fault, and every bank that begins with all
-- these bytes is refused so.
pub record IsRefusedPiece (e : Election) (fed piece : List ℕ) (fault : ImageFault) : Type 0 where
  pub completes : Completes e (length fed) (length (fed ++ piece)) fault
  pub each_bank : (rest : List ℕ) → IsRefusedBank e (fed ++ piece ++ rest) fault
