-- What a disk in memory shows, whichever of its calls fail.
use Rattle.std.specs.Prelude.{◌≡◌, ℕ, ◌+◌, nat_lt, Bool, ◌&&◌, not, List, Option, Some}
use Rattle.crash_disk.specs.Calls.{MadeCall}
use Rattle.crash_disk.specs.Notes.{Notes, made_calls, left_of}
use Rattle.crash_disk.specs.declared.recorded.RecordedDisk.{RecordedDisk}

-- its members as a disk
abbrev pub recorded_sees : {W : Type 0} → RecordedDisk W → Option (List ℕ)
recorded_sees disk = Some disk.recording.bytes.items

abbrev pub recorded_leaves : {W : Type 0} → RecordedDisk W → ℕ → List ℕ → Type 0
recorded_leaves disk moment bytes = left_of disk.recording moment bytes

abbrev pub recorded_calls : {W : Type 0} → RecordedDisk W → ℕ
recorded_calls disk = disk.recording.calls

abbrev pub recorded_faults : {W : Type 0} → RecordedDisk W → ℕ
recorded_faults disk = disk.recording.faults

-- its record of calls
abbrev pub recorded_made : {W : Type 0} → RecordedDisk W → List MadeCall
recorded_made disk = made_calls disk.recording

-- Whether the next call passes, but for the room that a write needs: there is room for it in the record, and its
-- number, one more than the calls so far, is none of those that fail.
abbrev pub passes_next : {W : Type 0} → (W → ℕ → Bool) → RecordedDisk W → Bool
passes_next fails disk =
    nat_lt disk.recording.calls disk.recording.room.calls && not (fails disk.when (disk.recording.calls + 1))

-- the call is counted and recorded, and which calls fail stays
pub record Records {W : Type 0} (made : MadeCall) (old new : RecordedDisk W) : Type 0 where
  pub noted : Notes made old.recording new.recording
  pub when : new.when ≡ old.when
