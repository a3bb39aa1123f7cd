-- The law of a recorded disk that its bytes are one of its crash images. A type's members may cite no proofs of their
-- own crate, so what proves this law stands here, and nothing else.
use Rattle.std.proofs.Common.{◌≡◌, ℕ, zero, suc, ◌+◌, ◌*◌, ◌≤◌, max, min, true, List, ◌∷◌, [], ◌++◌, length, take, drop, Some, refl, sym, ◌∙◌, ap, subst, arith, nat_le, append_assoc, length-append, length-drop}
use Rattle.std.proofs.lemmas.Bool.{and_parts, leb-true}
use Rattle.std.proofs.lemmas.List.{drop_at, length-map, length-take, take_at}
use Rattle.store_spec.specs.Disk.{overwritten, IsTorn}
use Rattle.crash_disk.specs.Calls.{event_of, made_call}
use Rattle.crash_disk.specs.History.{Event, DiskState, settled_state, state_after, state_at, left_in, left_at, seen_after, begin_within}
use Rattle.crash_disk.specs.History.Event.{Wrote, Synced, Unchanged}
use Rattle.crash_disk.specs.Notes.{made_calls, history_of, left_of}
use Rattle.crash_disk.specs.declared.recording.Recording.{Recording}

pub length-overwritten : (at : ℕ) (bytes old : List ℕ) → at ≤ length old → length (overwritten at bytes old) ≡ max (length old) (at + length bytes)
length-overwritten at bytes old le = omega (arith, length-append (take at old ++ bytes) (drop (at + length bytes) old), length-append (take at old) bytes, length-drop (at + length bytes) old, length-take at old)

-- a write within the size tears what it writes to
pub overwritten-torn : (at : ℕ) (bytes old : List ℕ) → at ≤ length old → IsTorn at (length bytes) old (overwritten at bytes old)
overwritten-torn at bytes old le = record {
  before = ap (λ (xs : List ℕ). take at xs) (append_assoc (take at old) bytes (drop (at + length bytes) old)) ∙ take_at (take at old) (bytes ++ drop (at + length bytes) old) at (omega (arith, length-take at old));
  behind = drop_at (take at old ++ bytes) (drop (at + length bytes) old) (at + length bytes) (omega (arith, length-append (take at old) bytes, length-take at old));
  no_shorter = omega (arith, length-overwritten at bytes old le);
  no_longer = omega (arith, length-overwritten at bytes old le);
}

-- two moments on, one call less is left
pub later : (s : DiskState) (x : Event) (es : List Event) (m n : ℕ) → m ≡ suc (suc n) → state_at s (x ∷ es) m ≡ state_at (state_after s x) es n
later s x es m n e = ap (state_at s (x ∷ es)) e

-- where no call is left the state stays
pub state_at-end : (s : DiskState) (es : List Event) (m : ℕ) → 2 * length es ≤ m → state_at s es m ≡ state_at s es (2 * length es)
state_at-end s [] m le = refl
state_at-end s (x ∷ es) zero le = absurd (omega arith)
state_at-end s (x ∷ es) (suc zero) le = absurd (omega arith)
state_at-end s (x ∷ es) (suc (suc m)) le = state_at-end (state_after s x) es m (omega arith) ∙ sym (later s x es _ (2 * length es) (omega arith))

-- what a read gives may be left, whatever the moment
pub seen-left : (s : DiskState) (es : List Event) (m : ℕ) → begin_within s es ≡ true → left_in s s.seen → left_in (state_at s es m) (state_at s es m).seen
seen-left s [] m ok now = now
seen-left s (e ∷ es) zero ok now = now
seen-left s (Wrote at bytes ∷ es) (suc zero) ok now = (s.seen, now, overwritten-torn at bytes s.seen (leb-true _ _ (and_parts (nat_le at (length s.seen)) _ ok).0))
seen-left s (Synced ∷ es) (suc zero) ok now = now
seen-left s (Unchanged ∷ es) (suc zero) ok now = now
seen-left s (Wrote at bytes ∷ es) (suc (suc m)) ok now =
    seen-left (state_after s (Wrote at bytes)) es m (and_parts (nat_le at (length s.seen)) _ ok).1 (s.seen, now, overwritten-torn at bytes s.seen (leb-true _ _ (and_parts (nat_le at (length s.seen)) _ ok).0))
seen-left s (Synced ∷ es) (suc (suc m)) ok now = seen-left (state_after s Synced) es m ok refl
seen-left s (Unchanged ∷ es) (suc (suc m)) ok now = seen-left s es m ok now

-- what a read gives is one of the images of the last moment
pub seen-left_at : (first bytes : List ℕ) (es : List Event) (calls : ℕ) → length es ≤ calls → begin_within (settled_state first) es ≡ true → bytes ≡ seen_after first es → left_at first es (2 * calls) bytes
seen-left_at first bytes es calls le ok is =
    let s = settled_state first in
    let P : DiskState → Type 0 = λ t. left_in t bytes in
    let Q : List ℕ → Type 0 = λ xs. left_in (state_at s es (2 * length es)) xs in
    subst P (sym (state_at-end s es (2 * calls) (omega arith))) (subst Q (sym is) (seen-left s es (2 * length es) ok refl))

-- each call that is in the record is counted
pub length-history : (recording : Recording) → length (history_of recording) ≡ min recording.calls recording.room.calls
length-history recording = length-map (made_calls recording) event_of ∙ length-map recording.entries.items (made_call recording.written.items) ∙ recording.recorded

pub recording-image : (recording : Recording) (bytes : List ℕ) → Some recording.bytes.items ≡ Some bytes → left_of recording (2 * recording.calls) bytes
recording-image recording bytes is =
    let same : recording.bytes.items ≡ bytes = cc in
    let P : List ℕ → Type 0 = λ xs. left_of recording (2 * recording.calls) xs in
    subst P same (seen-left_at recording.first.items recording.bytes.items (history_of recording) recording.calls (omega (arith, length-history recording)) recording.begins recording.replayed)
