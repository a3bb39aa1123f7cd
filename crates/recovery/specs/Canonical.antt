-- The bank of a medium that is read, and the other one.
use Rattle.std.specs.Prelude.{◌≡◌, ◌↔◌, ℕ, Bool, IsTrue, List, length}
use Rattle.store_spec.specs.Ballot.{Ballot}
use Rattle.store_spec.specs.Election.{Election, medium_size}
use Rattle.store_spec.specs.Image.{IsImageOf}
use Rattle.store_spec.specs.Medium.{Bank, IsChosen, IsOpen, bank_of, other_bank}

-- this bank is read, of as many bytes as a medium has
pub record IsReadFrom (e : Election) (bytes : List ℕ) (bank : Bank) : Type 0 where
  pub size : length bytes ≡ medium_size e
  pub chosen : IsChosen e bytes bank

-- and the gate of the other one is open or not
pub record IsChoice (e : Election) (bytes : List ℕ) (bank : Bank) (open_too : Bool) : Type 0 where
  pub from : IsReadFrom e bytes bank
  pub other : IsTrue open_too ↔ IsOpen e (other_bank bank) bytes

-- it is read as this set
pub record IsReadAs (e : Election) (bytes : List ℕ) (bank : Bank) (set : List Ballot) : Type 0 where
  pub from : IsReadFrom e bytes bank
  pub image : IsImageOf e (bank_of e bank bytes) set
