-- What a stop leaves of a disk in memory, by what becomes of the bytes that are not settled.
use Rattle.std.specs.Prelude.{◌≡◌, ℕ, ◌≤◌, Bool, List, [], ◌∷◌, length, replicate, if◌then◌else◌}
use Rattle.crash_disk.specs.History.{DiskState}
use Rattle.crash_disk.specs.declared.stop.Torn.{Torn}
use Rattle.crash_disk.specs.declared.stop.Torn.TheVariants.{Old, New, Fill}
use Rattle.store_spec.specs.Disk.{after_calls, inside_next, overwritten}

-- the moment of a stop: after so many calls, or inside the next one
abbrev pub moment_of : ℕ → Bool → ℕ
moment_of calls inside = if inside then inside_next calls else after_calls calls

-- these bytes with each of the ranges filled with one byte, the last range first
abbrev pub filled : ℕ → List ℕ → List (ℕ × ℕ) → List ℕ
filled byte bytes [] = bytes
filled byte bytes (range ∷ ranges) = overwritten range.0 (replicate range.1 byte) (filled byte bytes ranges)

-- What a stop in this state leaves: what was settled, what a read gives, or what was settled with each range that was
-- written since then filled.
abbrev pub left_as : Torn → DiskState → List ℕ
left_as Old s = s.settled
left_as New s = s.seen
left_as (Fill byte) s = filled byte s.settled s.ranges

-- ---- what a write makes of it

abbrev pub torn_write : Torn → ℕ → List ℕ → List ℕ → List ℕ
torn_write Old at bytes left = left
torn_write New at bytes left = overwritten at bytes left
torn_write (Fill byte) at bytes left = overwritten at (replicate (length bytes) byte) left

-- a write that reaches it begins within its size or at its end
abbrev pub MayTear : Torn → ℕ → List ℕ → Type 0
MayTear Old at left = Unit {0}
MayTear New at left = at ≤ length left
MayTear (Fill byte) at left = at ≤ length left

-- what a read gives in a state, and what a stop leaves
pub record Replays (torn : Torn) (s : DiskState) (seen left : List ℕ) : Type 0 where
  pub sees : seen ≡ s.seen
  pub leaves : left ≡ left_as torn s
