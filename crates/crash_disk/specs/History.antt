-- What a crash may leave of a disk in memory, told from what the disk held at first and from what its calls did.
use Rattle.std.specs.Prelude.{◌≡◌, ℕ, zero, suc, ◌*◌, nat_le, Bool, true, ◌&&◌, List, [], ◌∷◌, length}
use Rattle.store_spec.specs.Disk.{overwritten, torn_from}

-- what a call did: a write or a sync that succeeded, or a call that changed nothing
pub data Event : Type 0 where
  Wrote : ℕ → List ℕ → Event
  Synced : Event
  Unchanged : Event

-- what a read gives, what the last sync settled, and the ranges written since then, the last first: where each begins
-- and how long it is
pub record DiskState : Type 0 where
  pub seen : List ℕ
  pub settled : List ℕ
  pub ranges : List (ℕ × ℕ)

-- a disk that holds these bytes, all of them settled
abbrev pub settled_state : List ℕ → DiskState
settled_state bytes = record { seen = bytes; settled = bytes; ranges = [] }

-- the state after a call
abbrev pub state_after : DiskState → Event → DiskState
state_after s (Wrote at bytes) = record { seen = overwritten at bytes s.seen; settled = s.settled; ranges = (at, length bytes) ∷ s.ranges }
state_after s Synced = settled_state s.seen
state_after s Unchanged = s

-- the state inside a call: the range of a write counts as written already, and a sync has settled nothing yet
abbrev pub state_inside : DiskState → Event → DiskState
state_inside s (Wrote at bytes) = state_after s (Wrote at bytes)
state_inside s Synced = s
state_inside s Unchanged = s

-- the state at a moment, and the last one where no call is left
abbrev pub state_at : DiskState → List Event → ℕ → DiskState
state_at s [] m = s
state_at s (e ∷ es) zero = s
state_at s (e ∷ es) (suc zero) = state_inside s e
state_at s (e ∷ es) (suc (suc m)) = state_at (state_after s e) es m

-- these bytes with each of the ranges torn
abbrev pub torn_in : List ℕ → List (ℕ × ℕ) → List ℕ → Type 0
torn_in bytes [] image = image ≡ bytes
torn_in bytes (range ∷ ranges) image = torn_from range.0 range.1 (torn_in bytes ranges) image

-- what a crash in this state may leave
abbrev pub left_in : DiskState → List ℕ → Type 0
left_in s image = torn_in s.settled s.ranges image

-- what a crash at a moment may leave of a disk that held these bytes at first
abbrev pub left_at : List ℕ → List Event → ℕ → List ℕ → Type 0
left_at first events m image = left_in (state_at (settled_state first) events m) image

-- what a read gives after these calls
abbrev pub seen_after : List ℕ → List Event → List ℕ
seen_after first events = (state_at (settled_state first) events (2 * length events)).seen

-- whether each write began within the size or at its end
abbrev pub begin_within : DiskState → List Event → Bool
begin_within s [] = true
begin_within s (Wrote at bytes ∷ es) = nat_le at (length s.seen) && begin_within (state_after s (Wrote at bytes)) es
begin_within s (e ∷ es) = begin_within (state_after s e) es
