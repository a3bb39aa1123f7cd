-- What a stop leaves of a disk in memory, call by call.
use Rattle.std.proofs.Common.{◌≡◌, ℕ, zero, suc, ◌+◌, ◌*◌, ◌≤◌, ◌<◌, Bool, true, false, List, [], ◌∷◌, length, get_or, replicate, refl, sym, ◌∙◌, ap, subst, arith}
use Rattle.store_spec.proofs.Common.{IsTorn, and_parts, get_or-map, leb-true, length-map, length-replicate, overwritten, slice_range}
use Rattle.std.specs.Prelude.{nat_le, if◌then◌else◌}
use Rattle.crash_disk.proofs.TornBytes.{torn-same}
use Rattle.crash_disk.specs.Calls.{event_of, event_of_call, made_call}
use Rattle.crash_disk.specs.History.{Event, DiskState, settled_state, state_after, state_inside, state_at, left_in, begin_within}
use Rattle.crash_disk.specs.History.Event.{Wrote, Synced, Unchanged}
use Rattle.crash_disk.specs.Notes.{made_calls, history_of, state_of}
use Rattle.crash_disk.specs.SeenIsImage.{later, length-overwritten, overwritten-torn, state_at-end}
use Rattle.crash_disk.specs.Stop.{left_as, filled, moment_of, torn_write, MayTear, Replays}
use Rattle.crash_disk.specs.declared.entry.DiskCall.{DiskCall}
use Rattle.crash_disk.specs.declared.entry.DiskCall.TheVariants.{Size, Read, Write, Sync}
use Rattle.crash_disk.specs.declared.entry.Entry.{Entry}
use Rattle.crash_disk.specs.declared.recording.Recording.{Recording}
use Rattle.crash_disk.specs.declared.stop.Torn.{Torn}
use Rattle.crash_disk.specs.declared.stop.Torn.TheVariants.{Old, New, Fill}

-- ---- the state, one call after another

pub state_at-zero : (s : DiskState) (es : List Event) → state_at s es 0 ≡ s
state_at-zero s [] = refl
state_at-zero s (x ∷ es) = refl

-- after the call with this index
pub state_at-next : (s : DiskState) (es : List Event) (i : ℕ) (d : Event) → i < length es → state_at s es (2 * i + 2) ≡ state_after (state_at s es (2 * i)) (get_or es i d)
state_at-next s [] i d lt = absurd (omega arith)
state_at-next s (x ∷ es) zero d lt = state_at-zero (state_after s x) es
state_at-next s (x ∷ es) (suc i) d lt =
    later s x es _ (2 * i + 2) (omega arith) ∙ state_at-next (state_after s x) es i d (omega arith)
    ∙ ap (λ t. state_after t (get_or es i d)) (sym (later s x es _ (2 * i) (omega arith)))

-- and inside it
pub state_at-begun : (s : DiskState) (es : List Event) (i : ℕ) (d : Event) → i < length es → state_at s es (2 * i + 1) ≡ state_inside (state_at s es (2 * i)) (get_or es i d)
state_at-begun s [] i d lt = absurd (omega arith)
state_at-begun s (x ∷ es) zero d lt = refl
state_at-begun s (x ∷ es) (suc i) d lt =
    later s x es _ (2 * i + 1) (omega arith) ∙ state_at-begun (state_after s x) es i d (omega arith)
    ∙ ap (λ t. state_inside t (get_or es i d)) (sym (later s x es _ (2 * i) (omega arith)))

-- ---- where writes begin

abbrev pub Begins : DiskState → Event → Type 0
Begins s (Wrote at bytes) = at ≤ length s.seen
Begins s event = Unit {0}

begins-first : (s : DiskState) (e : Event) (es : List Event) → begin_within s (e ∷ es) ≡ true → Begins s e
begins-first s (Wrote at bytes) es ok = leb-true _ _ (and_parts (nat_le at (length s.seen)) _ ok).0
begins-first s Synced es ok = tt
begins-first s Unchanged es ok = tt

begins-rest : (s : DiskState) (e : Event) (es : List Event) → begin_within s (e ∷ es) ≡ true → begin_within (state_after s e) es ≡ true
begins-rest s (Wrote at bytes) es ok = (and_parts (nat_le at (length s.seen)) _ ok).1
begins-rest s Synced es ok = ok
begins-rest s Unchanged es ok = ok

begins-next : (s : DiskState) (es : List Event) (i : ℕ) (d : Event) → begin_within s es ≡ true → i < length es → Begins (state_at s es (2 * i)) (get_or es i d)
begins-next s [] i d ok lt = absurd (omega arith)
begins-next s (x ∷ es) zero d ok lt = begins-first s x es ok
begins-next s (x ∷ es) (suc i) d ok lt =
    subst (λ t. Begins t (get_or es i d)) (sym (later s x es _ (2 * i) (omega arith))) (begins-next (state_after s x) es i d (begins-rest s x es ok) (omega arith))

-- ---- what a read gives never gets shorter

grows-after : (s : DiskState) (e : Event) → Begins s e → length s.seen ≤ length (state_after s e).seen
grows-after s (Wrote at bytes) le = omega (arith, length-overwritten at bytes s.seen le)
grows-after s Synced le = omega arith
grows-after s Unchanged le = omega arith

grows-inside : (s : DiskState) (e : Event) → Begins s e → length (state_inside s e).seen ≤ length (state_after s e).seen
grows-inside s (Wrote at bytes) le = omega arith
grows-inside s Synced le = omega arith
grows-inside s Unchanged le = omega arith

abbrev seen_length : DiskState → ℕ
seen_length s = length s.seen

seen-grows : (s : DiskState) (es : List Event) (m : ℕ) → begin_within s es ≡ true → seen_length (state_at s es m) ≤ seen_length (state_at s es (2 * length es))
seen-grows s [] m ok = omega arith
seen-grows s (e ∷ es) zero ok =
    let first = begins-first s e es ok in
    let more = seen-grows (state_after s e) es 0 (begins-rest s e es ok) in
    let start = ap seen_length (state_at-zero (state_after s e) es) in
    let end = ap seen_length (later s e es (2 * length (e ∷ es)) (2 * length es) (omega arith)) in
    omega (arith, grows-after s e first, more, start, end)
seen-grows s (e ∷ es) (suc zero) ok =
    let first = begins-first s e es ok in
    let more = seen-grows (state_after s e) es 0 (begins-rest s e es ok) in
    let start = ap seen_length (state_at-zero (state_after s e) es) in
    let end = ap seen_length (later s e es (2 * length (e ∷ es)) (2 * length es) (omega arith)) in
    omega (arith, grows-inside s e first, more, start, end)
seen-grows s (e ∷ es) (suc (suc m)) ok =
    let more = seen-grows (state_after s e) es m (begins-rest s e es ok) in
    let end = ap seen_length (later s e es (2 * length (e ∷ es)) (2 * length es) (omega arith)) in
    omega (arith, more, end)

-- ---- what a stop leaves

-- It is one of the images of the state, no longer than what a read gives, and reached by each write to that.
pub record IsLeft (torn : Torn) (s : DiskState) : Type 0 where
  pub image : left_in s (left_as torn s)
  pub short : length (left_as torn s) ≤ length s.seen
  pub begins : (at : ℕ) → at ≤ length s.seen → MayTear torn at (left_as torn s)

left-settled : (torn : Torn) (bytes : List ℕ) → IsLeft torn (settled_state bytes)
left-settled Old bytes = record { image = refl; short = omega arith; begins = λ at le. tt }
left-settled New bytes = record { image = refl; short = omega arith; begins = λ at le. le }
left-settled (Fill byte) bytes = record { image = refl; short = omega arith; begins = λ at le. le }

left-wrote : (torn : Torn) (s : DiskState) (at : ℕ) (bytes : List ℕ) → at ≤ length s.seen → IsLeft torn s → IsLeft torn (state_after s (Wrote at bytes))
left-wrote Old s at bytes le left = record {
  image = (s.settled, left.image, torn-same at (length bytes) s.settled);
  short = omega (arith, left.short, length-overwritten at bytes s.seen le);
  begins = λ k within. tt;
}
left-wrote New s at bytes le left = record {
  image = (s.seen, left.image, overwritten-torn at bytes s.seen le);
  short = omega arith;
  begins = λ k within. within;
}
left-wrote (Fill byte) s at bytes le left =
    let f = filled byte s.settled s.ranges in
    let put = replicate (length bytes) byte in
    let reached : length s.seen ≤ length f = left.begins (length s.seen) (omega arith) in
    let begun : at ≤ length f = left.begins at le in
    let many : length put ≡ length bytes = length-replicate (length bytes) byte in
    record {
      image = (f, left.image, subst (λ n. IsTorn at n f (overwritten at put f)) many (overwritten-torn at put f begun));
      short = omega (arith, left.short, many, length-overwritten at bytes s.seen le, length-overwritten at put f begun);
      begins = λ k within. omega (arith, reached, many, length-overwritten at bytes s.seen le, length-overwritten at put f begun);
    }

left-after : (torn : Torn) (s : DiskState) (e : Event) → Begins s e → IsLeft torn s → IsLeft torn (state_after s e)
left-after torn s (Wrote at bytes) le left = left-wrote torn s at bytes le left
left-after torn s Synced le left = left-settled torn s.seen
left-after torn s Unchanged le left = left

left-inside : (torn : Torn) (s : DiskState) (e : Event) → Begins s e → IsLeft torn s → IsLeft torn (state_inside s e)
left-inside torn s (Wrote at bytes) le left = left-wrote torn s at bytes le left
left-inside torn s Synced le left = left
left-inside torn s Unchanged le left = left

left-at : (torn : Torn) (s : DiskState) (es : List Event) (m : ℕ) → begin_within s es ≡ true → IsLeft torn s → IsLeft torn (state_at s es m)
left-at torn s [] m ok left = left
left-at torn s (e ∷ es) zero ok left = left
left-at torn s (e ∷ es) (suc zero) ok left = left-inside torn s e (begins-first s e es ok) left
left-at torn s (e ∷ es) (suc (suc m)) ok left =
    left-at torn (state_after s e) es m (begins-rest s e es ok) (left-after torn s e (begins-first s e es ok) left)

-- what a write and a sync make of it
pub left_as-wrote : (torn : Torn) (s : DiskState) (at : ℕ) (bytes : List ℕ) → left_as torn (state_after s (Wrote at bytes)) ≡ torn_write torn at bytes (left_as torn s)
left_as-wrote Old s at bytes = refl
left_as-wrote New s at bytes = refl
left_as-wrote (Fill byte) s at bytes = refl

pub left_as-settled : (torn : Torn) (bytes : List ℕ) → left_as torn (settled_state bytes) ≡ bytes
left_as-settled Old bytes = refl
left_as-settled New bytes = refl
left_as-settled (Fill byte) bytes = refl

-- ---- what a call did

-- one that failed
pub event-failed : (written : List ℕ) (entry : Entry) → entry.passed ≡ false → event_of (made_call written entry) ≡ Unchanged
event-failed written entry failed =
    ap (λ (p : Bool). if p then event_of_call entry.call (slice_range written entry.start (entry.start + entry.count)) else Unchanged) failed

-- one that passed
pub event-passed : (written : List ℕ) (entry : Entry) (call : DiskCall) → entry.passed ≡ true → entry.call ≡ call → event_of (made_call written entry) ≡ event_of_call call (slice_range written entry.start (entry.start + entry.count))
event-passed written entry call passed is =
    ap (λ (p : Bool). if p then event_of_call entry.call (slice_range written entry.start (entry.start + entry.count)) else Unchanged) passed
    ∙ ap (λ (c : DiskCall). event_of_call c (slice_range written entry.start (entry.start + entry.count))) is

-- but for a write the state inside a call is that before it
quiet-inside : (s : DiskState) (call : DiskCall) (put : List ℕ) → ((x y : ℕ) → call ≡ Write x y → ⊥) → state_inside s (event_of_call call put) ≡ s
quiet-inside s Size put other = refl
quiet-inside s (Read x y) put other = refl
quiet-inside s (Write x y) put other = absurd (other x y refl)
quiet-inside s Sync put other = refl

-- and but for a sync so is the state after it
quiet-after : (s : DiskState) (call : DiskCall) (put : List ℕ) → ((x y : ℕ) → call ≡ Write x y → ⊥) → (call ≡ Sync → ⊥) → state_after s (event_of_call call put) ≡ s
quiet-after s Size put other unsynced = refl
quiet-after s (Read x y) put other unsynced = refl
quiet-after s (Write x y) put other unsynced = absurd (other x y refl)
quiet-after s Sync put other unsynced = absurd (unsynced refl)

pub moment_of-late : (calls : ℕ) (inside : Bool) → 2 * calls ≤ moment_of calls inside
moment_of-late calls true = omega arith
moment_of-late calls false = omega arith

-- ---- of a recording

module _ (m : Recording) where
  pub left_now : (torn : Torn) (t : ℕ) → IsLeft torn (state_of m t)
  left_now torn t = left-at torn (settled_state m.first.items) (history_of m) t m.begins (left-settled torn m.first.items)

  pub seen_room : (t : ℕ) → length (state_of m t).seen ≤ m.room.size
  seen_room t = omega (arith, seen-grows (settled_state m.first.items) (history_of m) t m.begins, ap (λ (xs : List ℕ). length xs) m.replayed, m.size)

  pub length-events : length (history_of m) ≡ length m.entries.items
  length-events = length-map (made_calls m) event_of ∙ length-map m.entries.items (made_call m.written.items)

  -- what the call with this index did
  event_at : (i : ℕ) (entry : Entry) → i < length m.entries.items → entry ≡ get_or m.entries.items i entry → get_or (history_of m) i Unchanged ≡ event_of (made_call m.written.items entry)
  event_at i entry lt is =
      let within : i < length (made_calls m) = omega (arith, length-map m.entries.items (made_call m.written.items)) in
      get_or-map event_of (made_calls m) i (made_call m.written.items entry) Unchanged within
      ∙ ap event_of (get_or-map (made_call m.written.items) m.entries.items i entry (made_call m.written.items entry) lt)
      ∙ ap (λ (e : Entry). event_of (made_call m.written.items e)) (sym is)

  -- the state after it, and inside it
  pub state-next : (i : ℕ) (entry : Entry) → i < length m.entries.items → entry ≡ get_or m.entries.items i entry → state_of m (2 * (i + 1)) ≡ state_after (state_of m (2 * i)) (event_of (made_call m.written.items entry))
  state-next i entry lt is =
      ap (state_of m) (omega arith) ∙ state_at-next (settled_state m.first.items) (history_of m) i Unchanged (omega (arith, length-events))
      ∙ ap (state_after (state_of m (2 * i))) (event_at i entry lt is)

  pub state-begun : (i : ℕ) (entry : Entry) → i < length m.entries.items → entry ≡ get_or m.entries.items i entry → state_of m (2 * i + 1) ≡ state_inside (state_of m (2 * i)) (event_of (made_call m.written.items entry))
  state-begun i entry lt is =
      state_at-begun (settled_state m.first.items) (history_of m) i Unchanged (omega (arith, length-events))
      ∙ ap (state_inside (state_of m (2 * i))) (event_at i entry lt is)

  pub begins-entry : (i : ℕ) (entry : Entry) → i < length m.entries.items → entry ≡ get_or m.entries.items i entry → Begins (state_of m (2 * i)) (event_of (made_call m.written.items entry))
  begins-entry i entry lt is =
      subst (Begins (state_of m (2 * i))) (event_at i entry lt is) (begins-next (settled_state m.first.items) (history_of m) i Unchanged m.begins (omega (arith, length-events)))

  -- behind the record the state stays
  pub state-ended : (t : ℕ) → 2 * length m.entries.items ≤ t → state_of m (2 * length m.entries.items) ≡ state_of m t
  state-ended t far =
      ap (λ n. state_of m (2 * n)) (sym length-events)
      ∙ sym (state_at-end (settled_state m.first.items) (history_of m) t (omega (arith, length-events)))

  -- before the first call
  pub replays-none : (torn : Torn) (seen left : List ℕ) → seen ≡ m.first.items → left ≡ m.first.items → Replays torn (state_of m 0) seen left
  replays-none torn seen left sees leaves =
      let start : DiskState = settled_state m.first.items in
      subst (λ (s : DiskState). Replays torn s seen left) (sym (state_at-zero start (history_of m)))
      (record { sees = sees; leaves = leaves ∙ sym (left_as-settled torn m.first.items) })

-- one call of a recording
module _ (m : Recording) (i : ℕ) (entry : Entry) (lt : i < length m.entries.items) (is : entry ≡ get_or m.entries.items i entry) where
  -- the state inside it
  pub inside-failed : entry.passed ≡ false → state_of m (2 * i) ≡ state_of m (2 * i + 1)
  inside-failed failed = sym (state-begun m i entry lt is ∙ ap (state_inside (state_of m (2 * i))) (event-failed m.written.items entry failed))

  pub inside-quiet : entry.passed ≡ true → ((x y : ℕ) → entry.call ≡ Write x y → ⊥) → state_of m (2 * i) ≡ state_of m (2 * i + 1)
  inside-quiet passed other =
      sym (state-begun m i entry lt is ∙ ap (state_inside (state_of m (2 * i))) (event-passed m.written.items entry entry.call passed refl)
      ∙ quiet-inside (state_of m (2 * i)) entry.call (slice_range m.written.items entry.start (entry.start + entry.count)) other)

  pub inside-wrote : (at n : ℕ) → entry.passed ≡ true → entry.call ≡ Write at n → state_of m (2 * (i + 1)) ≡ state_of m (2 * i + 1)
  inside-wrote at n passed call =
      let event = event-passed m.written.items entry (Write at n) passed call in
      state-next m i entry lt is ∙ ap (state_after (state_of m (2 * i))) event
      ∙ sym (state-begun m i entry lt is ∙ ap (state_inside (state_of m (2 * i))) event)

  -- it is made again
  module _ (torn : Torn) (seen left : List ℕ) (before : Replays torn (state_of m (2 * i)) seen left) where
    pub replays-failed : entry.passed ≡ false → Replays torn (state_of m (2 * (i + 1))) seen left
    replays-failed failed =
        subst (λ (t : DiskState). Replays torn t seen left) (sym (state-next m i entry lt is ∙ ap (state_after (state_of m (2 * i))) (event-failed m.written.items entry failed))) before

    pub replays-quiet : entry.passed ≡ true → ((x y : ℕ) → entry.call ≡ Write x y → ⊥) → (entry.call ≡ Sync → ⊥) → Replays torn (state_of m (2 * (i + 1))) seen left
    replays-quiet passed other unsynced =
        let same = quiet-after (state_of m (2 * i)) entry.call (slice_range m.written.items entry.start (entry.start + entry.count)) other unsynced in
        subst (λ (t : DiskState). Replays torn t seen left)
        (sym (state-next m i entry lt is ∙ ap (state_after (state_of m (2 * i))) (event-passed m.written.items entry entry.call passed refl) ∙ same)) before

    pub replays-synced : entry.passed ≡ true → entry.call ≡ Sync → (now : List ℕ) → now ≡ seen → Replays torn (state_of m (2 * (i + 1))) seen now
    replays-synced passed call now same =
        subst (λ (t : DiskState). Replays torn t seen now)
        (sym (state-next m i entry lt is ∙ ap (state_after (state_of m (2 * i))) (event-passed m.written.items entry Sync passed call)))
        (record { sees = before.sees; leaves = same ∙ before.sees ∙ sym (left_as-settled torn (state_of m (2 * i)).seen) })

    module _ (at n : ℕ) (bytes : List ℕ) (passed : entry.passed ≡ true) (call : entry.call ≡ Write at n) (puts : bytes ≡ slice_range m.written.items entry.start (entry.start + entry.count)) where
      event : event_of (made_call m.written.items entry) ≡ Wrote at bytes
      event = event-passed m.written.items entry (Write at n) passed call ∙ ap (Wrote at) (sym puts)

      next : state_of m (2 * (i + 1)) ≡ state_after (state_of m (2 * i)) (Wrote at bytes)
      next = state-next m i entry lt is ∙ ap (state_after (state_of m (2 * i))) event

      begins : at ≤ length (state_of m (2 * i)).seen
      begins = subst (Begins (state_of m (2 * i))) event (begins-entry m i entry lt is)

      pub write-begins : at ≤ length seen
      write-begins = omega (arith, begins, ap (λ (xs : List ℕ). length xs) before.sees)

      pub write-room : at + length bytes ≤ m.room.size
      write-room = omega (arith, seen_room m (2 * (i + 1)), ap seen_length next, length-overwritten at bytes (state_of m (2 * i)).seen begins)

      pub write-tears : MayTear torn at left
      write-tears = subst (MayTear torn at) (sym before.leaves) ((left_now m torn (2 * i)).begins at begins)

      pub write-replays : (sees leaves : List ℕ) → sees ≡ overwritten at bytes seen → leaves ≡ torn_write torn at bytes left → Replays torn (state_of m (2 * (i + 1))) sees leaves
      write-replays sees leaves written torn_so =
          subst (λ (t : DiskState). Replays torn t sees leaves) (sym next)
          (record {
            sees = written ∙ ap (overwritten at bytes) before.sees;
            leaves = torn_so ∙ ap (torn_write torn at bytes) before.leaves ∙ sym (left_as-wrote torn (state_of m (2 * i)) at bytes);
          })
