-- What the record of a disk in memory stands for. A disk in memory keeps an entry a call, and all bytes that it wrote.
use Rattle.std.specs.Prelude.{ℕ, ◌+◌, ◌≤◌, nat_lt, Bool, true, if◌then◌else◌, List, [], ◌∷◌, ◌++◌, length, map, slice_range, All}
use Rattle.crash_disk.specs.History.{Event}
use Rattle.crash_disk.specs.History.Event.{Wrote, Synced, Unchanged}
use Rattle.crash_disk.specs.declared.entry.DiskCall.{DiskCall}
use Rattle.crash_disk.specs.declared.entry.DiskCall.TheVariants.{Size, Read, Write, Sync}
use Rattle.crash_disk.specs.declared.entry.Entry.{Entry}

-- a call that was made, whether it succeeded, and the bytes that it put, which are none but for a write that succeeded
pub record MadeCall : Type 0 where
  pub call : DiskCall
  pub passed : Bool
  pub put : List ℕ

-- a call that put no bytes
abbrev pub plain_call : DiskCall → Bool → MadeCall
plain_call call passed = record { call = call; passed = passed; put = [] }

-- a write that succeeded, of these bytes
abbrev pub write_call : ℕ → List ℕ → MadeCall
write_call at bytes = record { call = Write at (length bytes); passed = true; put = bytes }

-- what a call that succeeds does; a write does it with these bytes
abbrev pub event_of_call : DiskCall → List ℕ → Event
event_of_call Size put = Unchanged
event_of_call (Read at count) put = Unchanged
event_of_call (Write at count) put = Wrote at put
event_of_call Sync put = Synced

-- what a call did
abbrev pub event_of : MadeCall → Event
event_of made = if made.passed then event_of_call made.call made.put else Unchanged

abbrev pub events_of : List MadeCall → List Event
events_of made = map event_of made

-- the call of an entry, given the bytes of all writes
abbrev pub made_call : List ℕ → Entry → MadeCall
made_call written entry = record {
  call = entry.call;
  passed = entry.passed;
  put = slice_range written entry.start (entry.start + entry.count);
}

abbrev pub made_calls_in : List ℕ → List Entry → List MadeCall
made_calls_in written entries = map (made_call written) entries

-- what the calls of these entries did
abbrev pub events_in : List ℕ → List Entry → List Event
events_in written entries = events_of (made_calls_in written entries)

-- the bytes of each entry are among those of all writes
abbrev pub AreStored : List ℕ → List Entry → Type 0
AreStored written entries = All (λ entry. entry.start + entry.count ≤ length written) entries

-- no call but a write changes bytes
abbrev pub ChangesNothing : DiskCall → Type 0
ChangesNothing (Write at count) = ⊥
ChangesNothing call = Unit {0}

-- a list with one item more, where it has fewer than so many
abbrev pub with_one_more : {X : Type 0} → ℕ → List X → X → List X
with_one_more room xs x = if nat_lt (length xs) room then xs ++ x ∷ [] else xs
