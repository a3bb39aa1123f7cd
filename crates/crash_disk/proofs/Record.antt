-- How the record of a disk in memory grows.
use Rattle.std.proofs.Common.{◌≡◌, ℕ, ◌+◌, ◌-◌, ◌*◌, ◌≤◌, ◌<◌, Bool, true, false, IsTrue, cond, List, [], ◌∷◌, ◌++◌, length, take, drop, refl, sym, ◌∙◌, ap, subst, arith, length-append, nat_lt}
use Rattle.store_spec.proofs.Common.{All-append, All-cons, All-nil, and_from, drop_at, le-leb, length-map, lt-ltb, map-append, overwritten, slice_range, take-append-le, take_all}
use Rattle.std.specs.Prelude.{map}
use Rattle.std.proofs.lemmas.Slice.{between_is}
use Rattle.std.specs.Prelude.{suc, nat_le}
use Rattle.crash_disk.specs.Calls.{MadeCall, event_of, events_of, made_call, made_calls_in, AreStored, ChangesNothing, with_one_more}
use Rattle.crash_disk.specs.History.{Event, DiskState, settled_state, state_after, state_at, seen_after, begin_within}
use Rattle.crash_disk.specs.History.Event.{Wrote, Synced, Unchanged}
use Rattle.crash_disk.proofs.Histories.{state_at-after, begin_within-append}
use Rattle.crash_disk.specs.declared.entry.DiskCall.{DiskCall}
use Rattle.crash_disk.specs.declared.entry.DiskCall.TheVariants.{Size, Read, Write, Sync}
use Rattle.crash_disk.specs.declared.entry.Entry.{Entry}

-- no write that succeeds
abbrev pub PutsNothing : Event → Type 0
PutsNothing (Wrote at bytes) = ⊥
PutsNothing event = Unit {0}

pub puts_nothing : (call : DiskCall) (passed : Bool) (put : List ℕ) → (IsTrue passed → ChangesNothing call) → PutsNothing (event_of (record { call = call; passed = passed; put = put }))
puts_nothing call false put h = tt
puts_nothing Size true put h = tt
puts_nothing (Read at count) true put h = tt
puts_nothing (Write at count) true put h = h refl
puts_nothing Sync true put h = tt

-- what a read gives after one call more
pub seen_after-append : (first : List ℕ) (es : List Event) (e : Event) → seen_after first (es ++ e ∷ []) ≡ (state_after (state_at (settled_state first) es (2 * length es)) e).seen
seen_after-append first es e =
    let n : 2 * length (es ++ e ∷ []) ≡ 2 * length es + 2 = omega (arith, length-append es (e ∷ [])) in
    ap (λ m. (state_at (settled_state first) (es ++ e ∷ []) m).seen) n ∙ ap (λ (s : DiskState). s.seen) (state_at-after (settled_state first) es e)

-- a call that puts nothing leaves what a read gives
pub seen_after-nothing : (first : List ℕ) (es : List Event) (e : Event) → PutsNothing e → seen_after first (es ++ e ∷ []) ≡ seen_after first es
seen_after-nothing first es (Wrote at bytes) h = absurd h
seen_after-nothing first es Synced h = seen_after-append first es Synced
seen_after-nothing first es Unchanged h = seen_after-append first es Unchanged

-- and begins within the size
pub begins-nothing : (first : List ℕ) (es : List Event) (e : Event) → PutsNothing e → begin_within (settled_state first) es ≡ true → begin_within (settled_state first) (es ++ e ∷ []) ≡ true
begins-nothing first es (Wrote at bytes) h ok = absurd h
begins-nothing first es Synced h ok = begin_within-append (settled_state first) es Synced ok refl
begins-nothing first es Unchanged h ok = begin_within-append (settled_state first) es Unchanged ok refl

-- either of two lists
either : {X : Type 0} (P : List X → Type 0) (b : Bool) (xs ys : List X) → P xs → P ys → P (cond b xs ys)
either P true xs ys p q = p
either P false xs ys p q = q

map-cond : {X Y : Type 0} (f : X → Y) (b : Bool) (xs ys : List X) → map f (cond b xs ys) ≡ cond b (map f xs) (map f ys)
map-cond f true xs ys = refl
map-cond f false xs ys = refl

-- one item more of a list that is mapped
pub map-one_more : {X Y : Type 0} (f : X → Y) (room : ℕ) (xs : List X) (x : X) → map f (with_one_more room xs x) ≡ with_one_more room (map f xs) (f x)
map-one_more f room xs x =
    map-cond f (nat_lt (length xs) room) (xs ++ x ∷ []) xs
    ∙ ap (λ ys. cond (nat_lt (length xs) room) ys (map f xs)) (map-append f xs (x ∷ []))
    ∙ ap (λ n. cond (nat_lt n room) (map f xs ++ f x ∷ []) (map f xs)) (sym (length-map xs f))

-- the events of one call more
pub events-more : (room : ℕ) (written : List ℕ) (entries : List Entry) (entry : Entry) → events_of (made_calls_in written (with_one_more room entries entry)) ≡ with_one_more room (events_of (made_calls_in written entries)) (event_of (made_call written entry))
events-more room written entries entry = ap events_of (map-one_more (made_call written) room entries entry) ∙ map-one_more event_of room (made_calls_in written entries) (made_call written entry)

-- what a read gives stays where the new call put nothing
pub seen-more : (room : ℕ) (first written : List ℕ) (entries : List Entry) (entry : Entry) → PutsNothing (event_of (made_call written entry)) → seen_after first (events_of (made_calls_in written (with_one_more room entries entry))) ≡ seen_after first (events_of (made_calls_in written entries))
seen-more room first written entries entry h =
    let es = events_of (made_calls_in written entries) in
    ap (seen_after first) (events-more room written entries entry)
    ∙ either (λ (xs : List Event). seen_after first xs ≡ seen_after first es) (nat_lt (length es) room) (es ++ event_of (made_call written entry) ∷ []) es (seen_after-nothing first es (event_of (made_call written entry)) h) refl

pub begins-more : (room : ℕ) (first written : List ℕ) (entries : List Entry) (entry : Entry) → PutsNothing (event_of (made_call written entry)) → begin_within (settled_state first) (events_of (made_calls_in written entries)) ≡ true → begin_within (settled_state first) (events_of (made_calls_in written (with_one_more room entries entry))) ≡ true
begins-more room first written entries entry h ok =
    let es = events_of (made_calls_in written entries) in
    ap (begin_within (settled_state first)) (events-more room written entries entry)
    ∙ either (λ (xs : List Event). begin_within (settled_state first) xs ≡ true) (nat_lt (length es) room) (es ++ event_of (made_call written entry) ∷ []) es (begins-nothing first es (event_of (made_call written entry)) h ok) ok

pub stored-more : (room : ℕ) (written : List ℕ) (entries : List Entry) (entry : Entry) → entry.start + entry.count ≤ length written → AreStored written entries → AreStored written (with_one_more room entries entry)
stored-more room written entries entry within stored =
    either (AreStored written) (nat_lt (length entries) room) (entries ++ entry ∷ []) entries
    (All-append (λ (e : Entry). e.start + e.count ≤ length written) entries (entry ∷ []) stored (All-cons (λ (e : Entry). e.start + e.count ≤ length written) entry [] within (All-nil (λ (e : Entry). e.start + e.count ≤ length written))))
    stored

-- the ghost facts of a recording, once its record has one call more that puts nothing
module _ (room : ℕ) (first written bytes : List ℕ) (entries more : List Entry) (call : DiskCall) (passed : Bool) (start : ℕ) (added : more ≡ with_one_more room entries (record { call = call; passed = passed; start = start; count = 0 })) (nothing : IsTrue passed → ChangesNothing call) where
  entry : Entry
  entry = record { call = call; passed = passed; start = start; count = 0 }

  puts : PutsNothing (event_of (made_call written entry))
  unfolding entry
  puts = puts_nothing call passed (slice_range written start (start + 0)) nothing

  pub noted-replayed : bytes ≡ seen_after first (events_of (made_calls_in written entries)) → bytes ≡ seen_after first (events_of (made_calls_in written more))
  unfolding entry
  noted-replayed h = h ∙ sym (seen-more room first written entries entry puts) ∙ ap (λ (es : List Entry). seen_after first (events_of (made_calls_in written es))) (sym added)

  pub noted-begins : begin_within (settled_state first) (events_of (made_calls_in written entries)) ≡ true → begin_within (settled_state first) (events_of (made_calls_in written more)) ≡ true
  unfolding entry
  noted-begins h = ap (λ (es : List Entry). begin_within (settled_state first) (events_of (made_calls_in written es))) added ∙ begins-more room first written entries entry puts h

  pub noted-stored : start ≤ length written → AreStored written entries → AreStored written more
  unfolding entry
  noted-stored le h = subst (AreStored written) (sym added) (stored-more room written entries entry (omega arith) h)

  pub noted-made : start ≤ length written → made_calls_in written more ≡ with_one_more room (made_calls_in written entries) (record { call = call; passed = passed; put = [] })
  unfolding entry
  noted-made le =
      let none : start + 0 - start ≡ 0 = omega arith in
      ap (made_calls_in written) added ∙ map-one_more (made_call written) room entries entry ∙ ap (λ put. with_one_more room (made_calls_in written entries) (record { call = call; passed = passed; put = put })) (ap (λ n. take n (drop start written)) none)

-- the calls stay where more bytes are put behind
made-stable : (written put : List ℕ) (entry : Entry) → entry.start + entry.count ≤ length written → made_call (written ++ put) entry ≡ made_call written entry
made-stable written put entry within =
    let end = entry.start + entry.count in
    ap (λ (bytes : List ℕ). record { call = entry.call; passed = entry.passed; put = bytes })
    (between_is (written ++ put) entry.start end ∙ ap (λ (bytes : List ℕ). drop entry.start bytes) (take-append-le end written put within) ∙ sym (between_is written entry.start end))

pub all_made-stable : (written put : List ℕ) (entries : List Entry) → AreStored written entries → made_calls_in (written ++ put) entries ≡ made_calls_in written entries
all_made-stable written put [] stored = refl
all_made-stable written put (entry ∷ entries) stored =
    ap (λ made. made ∷ made_calls_in (written ++ put) entries) (made-stable written put entry (stored 0 entry (omega arith)))
    ∙ ap (λ (made : List MadeCall). made_call written entry ∷ made) (all_made-stable written put entries (λ k d lt. stored (suc k) d (omega arith)))

-- a record with room gets the call
full-not : {X : Type 0} (room : ℕ) (xs : List X) (x : X) → length xs < room → with_one_more room xs x ≡ xs ++ x ∷ []
full-not room xs x lt = ap (λ b. cond b (xs ++ x ∷ []) xs) (lt-ltb (length xs) room lt)

-- the ghost facts of a recording, once a write has put bytes
module _ (room at : ℕ) (first written all put bytes : List ℕ) (entries more : List Entry) (stores : all ≡ written ++ put) (fits : length entries < room) (added : more ≡ with_one_more room entries (record { call = Write at (length put); passed = true; start = length written; count = length put })) (stored : AreStored written entries) where
  made : MadeCall
  made = record { call = Write at (length put); passed = true; put = put }

  new_made : made_call (written ++ put) (record { call = Write at (length put); passed = true; start = length written; count = length put }) ≡ made
  unfolding made
  new_made =
      let count : length written + length put - length written ≡ length put = omega arith in
      ap (λ (bytes : List ℕ). record { call = Write at (length put); passed = true; put = bytes })
      (ap (λ n. take n (drop (length written) (written ++ put))) count ∙ ap (λ (bytes : List ℕ). take (length put) bytes) (drop_at written put (length written) refl) ∙ take_all (length put) put (omega arith))

  -- the record has the write
  wrote : made_calls_in (written ++ put) more ≡ made_calls_in written entries ++ made ∷ []
  unfolding made
  wrote =
      ap (made_calls_in (written ++ put)) (added ∙ full-not room entries (record { call = Write at (length put); passed = true; start = length written; count = length put }) fits)
      ∙ map-append (made_call (written ++ put)) entries (record { call = Write at (length put); passed = true; start = length written; count = length put } ∷ [])
      ∙ ap (λ (made : List MadeCall). made ++ made_call (written ++ put) (record { call = Write at (length put); passed = true; start = length written; count = length put }) ∷ []) (all_made-stable written put entries stored)
      ∙ ap (λ (l : MadeCall). made_calls_in written entries ++ l ∷ []) new_made

  pub wrote-made : made_calls_in all more ≡ with_one_more room (made_calls_in written entries) (record { call = Write at (length put); passed = true; put = put })
  unfolding made
  wrote-made =
      ap (λ (bytes : List ℕ). made_calls_in bytes more) stores ∙ wrote
      ∙ sym (full-not room (made_calls_in written entries) made (omega (arith, length-map entries (made_call written))))

  events : events_of (made_calls_in all more) ≡ events_of (made_calls_in written entries) ++ Wrote at put ∷ []
  unfolding made
  events =
      ap (λ (bytes : List ℕ). events_of (made_calls_in bytes more)) stores ∙ ap events_of wrote
      ∙ map-append event_of (made_calls_in written entries) (made ∷ [])

  pub wrote-replayed : bytes ≡ seen_after first (events_of (made_calls_in written entries)) → overwritten at put bytes ≡ seen_after first (events_of (made_calls_in all more))
  wrote-replayed h =
      ap (overwritten at put) h ∙ sym (seen_after-append first (events_of (made_calls_in written entries)) (Wrote at put)) ∙ ap (seen_after first) (sym events)

  pub wrote-begins : bytes ≡ seen_after first (events_of (made_calls_in written entries)) → at ≤ length bytes → begin_within (settled_state first) (events_of (made_calls_in written entries)) ≡ true → begin_within (settled_state first) (events_of (made_calls_in all more)) ≡ true
  wrote-begins h le ok =
      ap (begin_within (settled_state first)) events
      ∙ begin_within-append (settled_state first) (events_of (made_calls_in written entries)) (Wrote at put) ok
      (and_from (nat_le at (length (seen_after first (events_of (made_calls_in written entries))))) true (le-leb at _ (subst (λ (xs : List ℕ). at ≤ length xs) h le)) refl)

  pub wrote-stored : AreStored all more
  wrote-stored =
      let long : length all ≡ length written + length put = ap length stores ∙ length-append written put in
      subst (AreStored all) (sym added)
      (stored-more room all entries (record { call = Write at (length put); passed = true; start = length written; count = length put }) (omega arith)
      (λ k d lt. omega (arith, stored k d lt)))
