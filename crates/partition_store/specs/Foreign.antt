-- Numbers that stand in another part than their own.
use Rattle.std.specs.Prelude.{◌≡◌, ◌≢◌, ℕ, ◌<◌, ◌≤◌, Contains, List, [], Option, Some, None, get_or, length, min}
use Rattle.partition_store.specs.Parted.{BelongsTo}
use Rattle.partition_store.specs.declared.looking.Foreign.{Foreign}
use Rattle.store_spec.specs.Ballot.{Ballot, numbers_of}
use Rattle.store_spec.specs.Parts.{part_of}

-- the least number among some that belongs to another part than this one
pub record IsLeast (bits part : ℕ) (IsAmong : ℕ → Type 0) (number : ℕ) : Type 0 where
  pub among : IsAmong number
  pub foreign : part_of bits number ≢ part
  pub least : (other : ℕ) → IsAmong other → part_of bits other ≢ part → number ≤ other

-- it, or none of them does
abbrev pub IsLeastForeign : ℕ → ℕ → (ℕ → Type 0) → Option ℕ → Type 0
IsLeastForeign bits part IsAmong None = (number : ℕ) → IsAmong number → part_of bits number ≡ part
IsLeastForeign bits part IsAmong (Some number) = IsLeast bits part IsAmong number

-- the same of a set
abbrev pub IsForeignIn : ℕ → ℕ → List Ballot → Option ℕ → Type 0
IsForeignIn bits part set foreign = IsLeastForeign bits part (Contains (numbers_of set)) foreign

-- the part with this index is the first of these sets that has a number of another part, and this is its least one
pub record IsMisplaced (bits : ℕ) (sets : List (List Ballot)) (index number : ℕ) : Type 0 where
  pub within : index < length sets
  pub earlier : (part : ℕ) → part < index → BelongsTo bits part (get_or sets part [])
  pub least : IsForeignIn bits index (get_or sets index []) (Some number)

-- the first of them, if there is one
abbrev pub IsFirstForeign : ℕ → List (List Ballot) → Option Foreign → Type 0
IsFirstForeign bits sets None = (part : ℕ) → part < length sets → BelongsTo bits part (get_or sets part [])
IsFirstForeign bits sets (Some foreign) = IsMisplaced bits sets foreign.index foreign.number

-- ---- how it is found

-- a number, and no empty cell, is among these cells
abbrev pub IsAmong : List ℕ → ℕ → Type 0
IsAmong cells number = (number ≢ 0) × Contains cells number

-- the lesser of this number and one of before
abbrev pub least_with : Option ℕ → ℕ → ℕ
least_with None number = number
least_with (Some other) number = min other number

-- the one of before, or else this number of the part with this index
abbrev pub first_foreign : Option Foreign → ℕ → Option ℕ → Option Foreign
first_foreign (Some foreign) index number = Some foreign
first_foreign None index (Some number) = Some (record { index = index; number = number })
first_foreign None index None = None
