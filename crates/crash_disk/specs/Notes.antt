-- What a call leaves in the record of a disk in memory.
use Rattle.std.specs.Prelude.{◌≡◌, ℕ, ◌+◌, ◌≤◌, nat_le, Bool, ◌&&◌, if◌then◌else◌, List, length}
use Rattle.store_spec.specs.Fault.{next_count}
use Rattle.crash_disk.specs.Calls.{MadeCall, made_calls_in, events_of, with_one_more}
use Rattle.crash_disk.specs.History.{Event, DiskState, settled_state, state_at, left_at}
use Rattle.crash_disk.specs.declared.recording.Recording.{Recording}

-- the record of all calls, in order
abbrev pub made_calls : Recording → List MadeCall
made_calls recording = made_calls_in recording.written.items recording.entries.items

-- whether a write of n bytes at `at` has room
abbrev pub has_room : Recording → ℕ → ℕ → Bool
has_room recording at n =
    nat_le (at + n) recording.room.size && nat_le (length recording.written.items + n) recording.room.written

-- One call more: the record gets it where there is room for it, and a fault is counted where it failed.
pub record Notes (made : MadeCall) (old new : Recording) : Type 0 where
  pub first : new.first.items ≡ old.first.items
  pub room : new.room ≡ old.room
  pub calls : new.calls ≡ next_count old.calls
  pub faults : new.faults ≡ (if made.passed then old.faults else next_count old.faults)
  pub never_falls : old.faults ≤ new.faults
  pub recorded : made_calls new ≡ with_one_more old.room.calls (made_calls old) made

-- what the calls did
abbrev pub history_of : Recording → List Event
history_of recording = events_of (made_calls recording)

-- the state at a moment
abbrev pub state_of : Recording → ℕ → DiskState
state_of recording m = state_at (settled_state recording.first.items) (history_of recording) m

-- what a crash at a moment may leave
abbrev pub left_of : Recording → ℕ → List ℕ → Type 0
left_of recording m image = left_at recording.first.items (history_of recording) m image
