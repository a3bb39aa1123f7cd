-- Where ballots stand in a list, by their numbers.
use Rattle.std.specs.Prelude.{◌≡◌, ◌≢◌, ℕ, ◌+◌, ◌*◌, ◌/◌, ◌%◌, ◌^◌, ◌<◌, ◌≤◌, ◌⊎◌, List, Contains, length, Option, Some, bit_xor, slice_get, slice_index}
use Rattle.std.specs.BTreeMap.{get}
use Rattle.std.specs.Ordering.{nat_cmp}
use Rattle.script_commands.specs.declared.build.index.Index.{Index}
use Rattle.script_commands.specs.declared.build.index.Place.{Place}
use Rattle.script_commands.specs.declared.build.index.Place.TheVariants.{Slot, Others}

-- the slot at which the search of a number begins
unfoldable pub slot_of : ℕ → ℕ
slot_of number = bit_xor number (number / 2 ^ 32) * 0x9E3779B97F4A7C15 % 2 ^ 64 / 2 ^ 47

-- the slots from this one on are taken, up to that one
abbrev pub AreTaken : List ℕ → ℕ → ℕ → Type 0
AreTaken slots home end = (at : ℕ) → home ≤ at → at < end → slice_index slots at ≢ 0

-- the number at this place stands in this slot, and its search comes to it
pub record StandsIn (slots : List ℕ) (k number : ℕ) : Type 0 where
  pub at : ℕ
  pub from : slot_of number ≤ at
  pub within : at < slot_of number + 8
  pub is : slice_index slots at ≡ k + 1
  pub before : AreTaken slots (slot_of number) at

-- the number at this place stands among the others, and its search comes to them
pub record StandsAmong (slots : List ℕ) (others : ℕ → Option ℕ) (k number : ℕ) : Type 0 where
  pub taken : AreTaken slots (slot_of number) (slot_of number + 8)
  pub is : others number ≡ Some k

-- the search of each number comes to its place; slots and tree have no more than the numbers
pub record IsIndexOf (index : Index) (numbers : List ℕ) : Type 0 where
  pub slots : length index.slots.items ≡ 2 ^ 17 + 8
  pub places : (at : ℕ) → slice_index index.slots.items at ≤ length numbers
  pub noted : (k number : ℕ) → slice_get numbers k ≡ Some number
      → StandsIn index.slots.items k number ⊎ StandsAmong index.slots.items (get nat_cmp index.others) k number
  pub others : (number k : ℕ) → get nat_cmp index.others number ≡ Some k → slice_get numbers k ≡ Some number

abbrev pub IsAbsent : List ℕ → ℕ → Type 0
IsAbsent numbers number = ¬ Contains numbers number

-- where a number is to be noted: in the first free slot of its search, and among the others where none is
-- free
abbrev pub IsPlaceOf : Place → Index → ℕ → Type 0
IsPlaceOf (Slot at) index number =
    (slot_of number ≤ at) × (at < slot_of number + 8) × (slice_index index.slots.items at ≡ 0)
    × AreTaken index.slots.items (slot_of number) at
IsPlaceOf Others index number = AreTaken index.slots.items (slot_of number) (slot_of number + 8)
