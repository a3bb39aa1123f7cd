-- What the renewal of a bank leaves of a medium.
use Rattle.std.specs.Prelude.{◌≡◌, ◌⊎◌, ℕ, List, length, slice_index}
use Rattle.store_spec.specs.Election.{Election}
use Rattle.store_spec.specs.Medium.{Bank, IsOpen, bank_of, gate_place, other_bank}

-- the other bank and its gate stay, and so does the size
pub record KeepsOther (e : Election) (bank : Bank) (old new : List ℕ) : Type 0 where
  pub size : length new ≡ length old
  pub bytes : bank_of e (other_bank bank) new ≡ bank_of e (other_bank bank) old
  pub gate : slice_index new (gate_place e (other_bank bank)) ≡ slice_index old (gate_place e (other_bank bank))

-- the bank has these bytes and its gate is open
pub record IsRenewed (e : Election) (bank : Bank) (image old new : List ℕ) : Type 0 where
  pub kept : KeepsOther e bank old new
  pub bytes : bank_of e bank new ≡ image
  pub gate : IsOpen e bank new

-- Where its gate is open, the bank is read whole: as it was behind an open gate, or with these bytes.
pub record IsHalfRenewed (e : Election) (bank : Bank) (image old new : List ℕ) : Type 0 where
  pub kept : KeepsOther e bank old new
  pub whole : IsOpen e bank new → (IsOpen e bank old × (bank_of e bank new ≡ bank_of e bank old)) ⊎ (bank_of e bank new ≡ image)
