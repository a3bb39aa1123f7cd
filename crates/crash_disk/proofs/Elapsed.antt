-- A disk in memory keeps the disk model.
use Rattle.std.proofs.Common.{◌≡◌, ℕ, ◌+◌, ◌*◌, ◌≤◌, ◌<◌, min, Bool, true, false, List, length, refl, sym, ◌∙◌, ap, subst, arith}
use Rattle.std.specs.Prelude.{Some, Result, Ok, Err, is_ok, OnOk, OnErr}
use Rattle.store_spec.specs.Disk.{leaves_now, torn_from, LeavesAtMost, MayLeaveInside, KeepsCrashImages, AddsNoCrashImage, KeepsThemInside, TearsAtMost, TearsExactly, IsSettled}
use Rattle.crash_disk.specs.Calls.{MadeCall, plain_call, write_call, event_of, events_of, with_one_more}
use Rattle.crash_disk.specs.History.{DiskState, settled_state, state_after, state_inside, state_at, left_in}
use Rattle.crash_disk.specs.History.Event.{Wrote, Synced, Unchanged}
use Rattle.crash_disk.specs.SeenIsImage.{state_at-end}
use Rattle.crash_disk.proofs.Histories.{state-past, state-inside, state-after}
use Rattle.crash_disk.specs.SeenIsImage.{length-history, recording-image}
use Rattle.crash_disk.specs.Notes.{Notes, made_calls, history_of, state_of}
use Rattle.crash_disk.specs.declared.entry.DiskCall.TheVariants.{Size, Read, Write, Sync}
use Rattle.crash_disk.specs.Recorded.{recorded_sees, recorded_leaves, recorded_calls}
use Rattle.crash_disk.specs.declared.recorded.RecordedDisk.{RecordedDisk}
use Rattle.crash_disk.specs.declared.recording.Recording.{Recording}
use Rattle.crash_disk.proofs.TornBytes.{torn-same}
use Rattle.crash_disk.proofs.Record.{map-one_more}

module _ (old new : Recording) (made : MadeCall) (notes : Notes made old new) (full : old.room.calls ≤ old.calls → event_of made ≡ Unchanged) where
  grows : history_of new ≡ with_one_more old.room.calls (history_of old) (event_of made)
  grows = ap events_of notes.recorded ∙ map-one_more event_of old.room.calls (made_calls old) made

  long : length (history_of new) ≡ min new.calls old.room.calls
  long = length-history new ∙ ap (λ room. min new.calls room.calls) notes.room

  first : (t : ℕ) → state_of new t ≡ state_at (settled_state old.first.items) (history_of new) t
  first t = ap (λ (bytes : List ℕ). state_at (settled_state bytes) (history_of new) t) notes.first

  pub past : (t : ℕ) → t ≤ 2 * old.calls → state_of new t ≡ state_of old t
  past t le = first t ∙ state-past (settled_state old.first.items) (history_of old) (history_of new) (event_of made) old.calls new.calls old.room.calls grows (length-history old) long notes.calls full t le

  pub inside : state_of new (2 * old.calls + 1) ≡ state_inside (state_of old (2 * old.calls)) (event_of made)
  inside = first (2 * old.calls + 1) ∙ state-inside (settled_state old.first.items) (history_of old) (history_of new) (event_of made) old.calls new.calls old.room.calls grows (length-history old) long notes.calls full

  pub after : state_of new (2 * new.calls) ≡ state_after (state_of old (2 * old.calls)) (event_of made)
  after = first (2 * new.calls) ∙ state-after (settled_state old.first.items) (history_of old) (history_of new) (event_of made) old.calls new.calls old.room.calls grows (length-history old) long notes.calls full

-- the state now has the bytes that a read gives
seen-now : (m : Recording) → (state_of m (2 * m.calls)).seen ≡ m.bytes.items
seen-now m =
    ap (λ (s : DiskState). s.seen) (state_at-end (settled_state m.first.items) (history_of m) (2 * m.calls) (omega (arith, length-history m))) ∙ sym m.replayed

-- images of states that are one
along : (s t : DiskState) (c : List ℕ) → s ≡ t → left_in s c → left_in t c
along s t c same left = subst (λ (u : DiskState). left_in u c) same left

-- A disk in memory, whichever of its calls fail.
module _ {W : Type 0} where
  module _ (old new : RecordedDisk W) (made : MadeCall) (notes : Notes made old.recording new.recording) (full : old.recording.room.calls ≤ old.recording.calls → event_of made ≡ Unchanged) where
    -- what a crash may leave is among the images of the states that the call leads to
    elapses : (images : List ℕ → Type 0)
        → ((c : List ℕ) → left_in (state_inside (state_of old.recording (2 * recorded_calls old)) (event_of made)) c → images c)
        → ((c : List ℕ) → left_in (state_after (state_of old.recording (2 * recorded_calls old)) (event_of made)) c → images c)
        → LeavesAtMost recorded_calls recorded_leaves images old new
    elapses images begun done = record {
      counted = notes.calls;
      past = λ _ m le c. (along _ _ c (past old.recording new.recording made notes full m le), along _ _ c (sym (past old.recording new.recording made notes full m le)));
      inside = λ _ c left. begun c (along _ _ c (inside old.recording new.recording made notes full) left);
      after = λ c left. done c (along _ _ c (after old.recording new.recording made notes full) left);
    }

    -- and each of these images may be left
    leaves_inside : (images : List ℕ → Type 0) → ((c : List ℕ) → images c → left_in (state_inside (state_of old.recording (2 * recorded_calls old)) (event_of made)) c) → MayLeaveInside recorded_calls recorded_leaves images old new
    leaves_inside images begun _ c h = along _ _ c (sym (inside old.recording new.recording made notes full)) (begun c h)

    leaves_after : (images : List ℕ → Type 0) → ((c : List ℕ) → images c → left_in (state_after (state_of old.recording (2 * recorded_calls old)) (event_of made)) c) → (c : List ℕ) → images c → leaves_now recorded_calls recorded_leaves new c
    leaves_after images done c h = along _ _ c (sym (after old.recording new.recording made notes full)) (done c h)

  -- a call that changed nothing
  module _ (old new : RecordedDisk W) (made : MadeCall) (notes : Notes made old.recording new.recording) (is : event_of made ≡ Unchanged) where
    pub same-images : KeepsCrashImages recorded_calls recorded_leaves old new
    same-images =
        let begun = ap (state_inside (state_of old.recording (2 * recorded_calls old))) is in
        let done = ap (state_after (state_of old.recording (2 * recorded_calls old))) is in
        record {
          at_most = elapses old new made notes (λ _. is) (leaves_now recorded_calls recorded_leaves old) (λ c h. along _ _ c begun h) (λ c h. along _ _ c done h);
          inside = leaves_inside old new made notes (λ _. is) (leaves_now recorded_calls recorded_leaves old) (λ c h. along _ _ c (sym begun) h);
          after = leaves_after old new made notes (λ _. is) (leaves_now recorded_calls recorded_leaves old) (λ c h. along _ _ c (sym done) h);
        }

  -- a write that succeeded
  module _ (old new : RecordedDisk W) (made : MadeCall) (at : ℕ) (put : List ℕ) (notes : Notes made old.recording new.recording) (room : old.recording.calls < old.recording.room.calls) (is : event_of made ≡ Wrote at put) where
    full : old.recording.room.calls ≤ old.recording.calls → event_of made ≡ Unchanged
    full le = absurd (omega arith)

    pub torn-images : TearsExactly recorded_calls recorded_leaves at (length put) old new
    torn-images =
        let begun = ap (state_inside (state_of old.recording (2 * recorded_calls old))) is in
        let done = ap (state_after (state_of old.recording (2 * recorded_calls old))) is in
        let images = torn_from at (length put) (leaves_now recorded_calls recorded_leaves old) in
        record {
          at_most = elapses old new made notes full images (λ c h. along _ _ c begun h) (λ c h. along _ _ c done h);
          inside = leaves_inside old new made notes full images (λ c h. along _ _ c (sym begun) h);
          after = leaves_after old new made notes full images (λ c h. along _ _ c (sym done) h);
        }

  -- a sync that succeeded
  module _ (old new : RecordedDisk W) (made : MadeCall) (notes : Notes made old.recording new.recording) (room : old.recording.calls < old.recording.room.calls) (is : event_of made ≡ Synced) where
    never_full : old.recording.room.calls ≤ old.recording.calls → event_of made ≡ Unchanged
    never_full le = absurd (omega arith)

    -- what a read gives is one of the images before
    seen_before : (c : List ℕ) → c ≡ (state_of old.recording (2 * recorded_calls old)).seen → leaves_now recorded_calls recorded_leaves old c
    seen_before c same = recording-image old.recording c (ap Some (sym (same ∙ seen-now old.recording)))

    pub synced-images : AddsNoCrashImage recorded_calls recorded_leaves old new
    synced-images =
        elapses old new made notes never_full (leaves_now recorded_calls recorded_leaves old)
        (λ c h. along _ _ c (ap (state_inside (state_of old.recording (2 * recorded_calls old))) is) h)
        (λ c h. seen_before c (along _ _ c (ap (state_after (state_of old.recording (2 * recorded_calls old))) is) h))

    pub synced-inside : KeepsThemInside recorded_calls recorded_leaves old new
    synced-inside = leaves_inside old new made notes never_full (leaves_now recorded_calls recorded_leaves old) (λ c h. along _ _ c (sym (ap (state_inside (state_of old.recording (2 * recorded_calls old))) is)) h)

    pub synced-settled : new.recording.bytes.items ≡ old.recording.bytes.items → IsSettled recorded_sees recorded_calls recorded_leaves new
    synced-settled same c = (
      λ left. ap Some (same ∙ sym (seen-now old.recording) ∙ sym (along _ _ c (after old.recording new.recording made notes never_full ∙ ap (state_after (state_of old.recording (2 * recorded_calls old))) is) left)),
      λ seen. recording-image new.recording c seen,
    )

  -- the calls of such a disk, by their results
  module _ (old new : RecordedDisk W) where
    pub size-images : (passed : Bool) → Notes (plain_call Size passed) old.recording new.recording → KeepsCrashImages recorded_calls recorded_leaves old new
    size-images true notes = same-images old new (plain_call Size true) notes refl
    size-images false notes = same-images old new (plain_call Size false) notes refl

    pub read-images : (passed : Bool) (at n : ℕ) → Notes (plain_call (Read at n) passed) old.recording new.recording → KeepsCrashImages recorded_calls recorded_leaves old new
    read-images true at n notes = same-images old new (plain_call (Read at n) true) notes refl
    read-images false at n notes = same-images old new (plain_call (Read at n) false) notes refl

  module _ {T E : Type 0} (old new : RecordedDisk W) where
    pub sync-images : (r : Result T E) → Notes (plain_call Sync (is_ok r)) old.recording new.recording → OnOk r (old.recording.calls < old.recording.room.calls) → AddsNoCrashImage recorded_calls recorded_leaves old new
    sync-images (Ok x) notes room = synced-images old new (plain_call Sync true) notes room refl
    sync-images (Err e) notes room = (same-images old new (plain_call Sync false) notes refl).at_most

    pub sync-inside : (r : Result T E) → Notes (plain_call Sync (is_ok r)) old.recording new.recording → OnOk r (old.recording.calls < old.recording.room.calls) → KeepsThemInside recorded_calls recorded_leaves old new
    sync-inside (Ok x) notes room = synced-inside old new (plain_call Sync true) notes room refl
    sync-inside (Err e) notes room = (same-images old new (plain_call Sync false) notes refl).inside

    pub sync-settled : (r : Result T E) → Notes (plain_call Sync (is_ok r)) old.recording new.recording → OnOk r (old.recording.calls < old.recording.room.calls) → new.recording.bytes.items ≡ old.recording.bytes.items → OnOk r (IsSettled recorded_sees recorded_calls recorded_leaves new)
    sync-settled (Ok x) notes room same = synced-settled old new (plain_call Sync true) notes room refl same
    sync-settled (Err e) notes room same = tt

    pub sync-unsettled : (r : Result T E) → Notes (plain_call Sync (is_ok r)) old.recording new.recording → OnErr r (KeepsCrashImages recorded_calls recorded_leaves old new)
    sync-unsettled (Ok x) notes = tt
    sync-unsettled (Err e) notes = same-images old new (plain_call Sync false) notes refl

    pub write-unchanged : (r : Result T E) (at n : ℕ) → OnErr r (Notes (plain_call (Write at n) false) old.recording new.recording) → OnErr r (KeepsCrashImages recorded_calls recorded_leaves old new)
    write-unchanged (Ok x) at n notes = tt
    write-unchanged (Err e) at n notes = same-images old new (plain_call (Write at n) false) notes refl

    pub write-any : (r : Result T E) (at : ℕ) (put : List ℕ) → OnOk r (Notes (write_call at put) old.recording new.recording) → OnOk r (old.recording.calls < old.recording.room.calls) → OnOk r (TearsExactly recorded_calls recorded_leaves at (length put) old new)
    write-any (Ok x) at put notes room = torn-images old new (write_call at put) at put notes room refl
    write-any (Err e) at put notes room = tt

    pub write-images : (r : Result T E) (at : ℕ) (put : List ℕ) → OnErr r (KeepsCrashImages recorded_calls recorded_leaves old new) → OnOk r (TearsExactly recorded_calls recorded_leaves at (length put) old new) → TearsAtMost recorded_calls recorded_leaves at (length put) old new
    write-images (Ok x) at put err ok = ok.at_most
    write-images (Err e) at put err ok =
        let a = err.at_most in
        record {
          counted = a.counted;
          past = a.past;
          inside = λ lt c left. (c, a.inside lt c left, torn-same at (length put) c);
          after = λ c left. (c, a.after c left, torn-same at (length put) c);
        }
