-- The medium: two banks, each an image, and behind them a gate byte for each, which says whether its bank is read.
use Rattle.std.specs.Prelude.{◌≡◌, ◌⊎◌, ℕ, ◌+◌, ◌*◌, ◌<◌, List, [], ◌∷◌, ◌++◌, length, slice_index, slice_range, Option, Some, None}
use Rattle.store_spec.specs.Ballot.{Ballot, IsBallotSet, IsWithinLimit}
use Rattle.store_spec.specs.Election.{Election, bank_size, medium_size}
use Rattle.store_spec.specs.Image.{IsImageOf, image_of}

pub data Bank : Type 0 where
  A : Bank
  B : Bank

abbrev pub other_bank : Bank → Bank
other_bank A = B
other_bank B = A

-- ---- where its parts stand

abbrev pub bank_place : Election → Bank → ℕ
bank_place e A = 0
bank_place e B = bank_size e

abbrev pub gate_place : Election → Bank → ℕ
gate_place e A = 2 * bank_size e
gate_place e B = 2 * bank_size e + 1

abbrev pub bank_of : Election → Bank → List ℕ → List ℕ
bank_of e bank bytes = slice_range bytes (bank_place e bank) (bank_place e bank + bank_size e)

-- ---- gates

abbrev pub open_gate : ℕ
open_gate = 0xA7

-- the byte that the program writes to close a gate
abbrev pub closed_gate : ℕ
closed_gate = 0

-- the gate of a bank is open: each other byte is a closed one
abbrev pub IsOpen : Election → Bank → List ℕ → Type 0
IsOpen e bank bytes = slice_index bytes (gate_place e bank) ≡ open_gate

-- ---- what a medium holds

-- the medium of a set of ballots: its image twice, and both gates open
abbrev pub medium_of : Election → List Ballot → List ℕ
medium_of e set = image_of e set ++ image_of e set ++ open_gate ∷ open_gate ∷ []

-- the bytes are the medium of this set, which is one that the election's store may hold
pub record IsMediumOf (e : Election) (medium : List ℕ) (ballots : List Ballot) : Type 0 where
  pub set : IsBallotSet e ballots
  pub within_limit : IsWithinLimit e ballots
  pub bytes : medium ≡ medium_of e ballots

-- the bank that is read: A where its gate is open, else B where that one is
abbrev pub IsChosen : Election → List ℕ → Bank → Type 0
IsChosen e bytes A = IsOpen e A bytes
IsChosen e bytes B = (¬ IsOpen e A bytes) × IsOpen e B bytes

-- the bytes hold this set: they are as many as a medium has, and the bank that is read is the image of the set
pub record HoldsSet (e : Election) (bytes : List ℕ) (set : List Ballot) : Type 0 where
  pub size : length bytes ≡ medium_size e
  pub bank : Bank
  pub chosen : IsChosen e bytes bank
  pub image : IsImageOf e (bank_of e bank bytes) set

abbrev pub HoldsSome : Election → List ℕ → Type 0
HoldsSome e bytes = (set : List Ballot) × HoldsSet e bytes set

-- what the bytes hold: a set, or nothing
abbrev pub Holds : Election → List ℕ → Option (List Ballot) → Type 0
Holds e bytes (Some set) = HoldsSet e bytes set
Holds e bytes None = (set : List Ballot) → ¬ HoldsSet e bytes set

-- they hold what the others hold
abbrev pub HoldsTheSame : Election → List ℕ → List ℕ → Type 0
HoldsTheSame e others bytes = (held : Option (List Ballot)) → Holds e others held → Holds e bytes held

-- they hold this set or nothing
abbrev pub HoldsAtMost : Election → List Ballot → List ℕ → Type 0
HoldsAtMost e set bytes = Holds e bytes (Some set) ⊎ Holds e bytes None

-- Neither bank is read: the bytes are fewer than a medium has, or both gates are closed.
abbrev pub IsUnused : Election → List ℕ → Type 0
IsUnused e bytes =
    (length bytes < medium_size e) ⊎ ((length bytes ≡ medium_size e) × (¬ IsOpen e A bytes) × (¬ IsOpen e B bytes))

-- This bank is not read: the bytes are fewer than a medium has, or its gate is closed.
abbrev pub IsUnread : Election → Bank → List ℕ → Type 0
IsUnread e bank bytes = (length bytes < medium_size e) ⊎ (¬ IsOpen e bank bytes)
