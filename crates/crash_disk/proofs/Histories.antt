-- Laws of the history of a disk in memory.
use Rattle.std.proofs.Common.{◌≡◌, ℕ, zero, suc, ◌+◌, ◌*◌, ◌≤◌, ◌<◌, min, true, List, [], ◌∷◌, ◌++◌, length, refl, sym, ◌∙◌, ap, arith, nat_le, cond, ⊎_elim, length-append}
use Rattle.store_spec.proofs.Common.{and_from, and_parts, cases_lt, le-ltb, lt-ltb, next_count}
use Rattle.crash_disk.specs.Calls.{with_one_more}
use Rattle.crash_disk.proofs.Moments.{next_count-le}
use Rattle.crash_disk.specs.SeenIsImage.{later, state_at-end}
use Rattle.crash_disk.specs.History.{Event, DiskState, state_after, state_inside, state_at, begin_within}
use Rattle.crash_disk.specs.History.Event.{Wrote, Synced, Unchanged}

-- a call more leaves the moments before it
pub state_at-append : (s : DiskState) (es : List Event) (e : Event) (m : ℕ) → m ≤ 2 * length es → state_at s (es ++ e ∷ []) m ≡ state_at s es m
state_at-append s [] e zero le = refl
state_at-append s [] e (suc m) le = absurd (omega arith)
state_at-append s (x ∷ es) e zero le = refl
state_at-append s (x ∷ es) e (suc zero) le = refl
state_at-append s (x ∷ es) e (suc (suc m)) le = state_at-append (state_after s x) es e m (omega arith)

-- the state inside the last call
pub state_at-inside : (s : DiskState) (es : List Event) (e : Event) → state_at s (es ++ e ∷ []) (2 * length es + 1) ≡ state_inside (state_at s es (2 * length es)) e
state_at-inside s [] e = refl
state_at-inside s (x ∷ es) e =
    later s x (es ++ e ∷ []) _ (2 * length es + 1) (omega arith) ∙ state_at-inside (state_after s x) es e
    ∙ ap (λ t. state_inside t e) (sym (later s x es _ (2 * length es) (omega arith)))

-- the state after the last call
pub state_at-after : (s : DiskState) (es : List Event) (e : Event) → state_at s (es ++ e ∷ []) (2 * length es + 2) ≡ state_after (state_at s es (2 * length es)) e
state_at-after s [] e = refl
state_at-after s (x ∷ es) e =
    later s x (es ++ e ∷ []) _ (2 * length es + 2) (omega arith) ∙ state_at-after (state_after s x) es e
    ∙ ap (λ t. state_after t e) (sym (later s x es _ (2 * length es) (omega arith)))

-- each write of a run begins within the size, where those before the last do, and the last
pub begin_within-append : (s : DiskState) (es : List Event) (e : Event) → begin_within s es ≡ true → begin_within (state_at s es (2 * length es)) (e ∷ []) ≡ true → begin_within s (es ++ e ∷ []) ≡ true
begin_within-append s [] e ok last = last
begin_within-append s (Wrote at bytes ∷ es) e ok last =
    let n = nat_le at (length s.seen) in
    and_from n _ (and_parts n _ ok).0 (begin_within-append (state_after s (Wrote at bytes)) es e (and_parts n _ ok).1 (ap (λ t. begin_within t (e ∷ [])) (sym (later s (Wrote at bytes) es _ (2 * length es) (omega arith))) ∙ last))
begin_within-append s (Synced ∷ es) e ok last =
    begin_within-append (state_after s Synced) es e ok (ap (λ t. begin_within t (e ∷ [])) (sym (later s Synced es _ (2 * length es) (omega arith))) ∙ last)
begin_within-append s (Unchanged ∷ es) e ok last =
    begin_within-append s es e ok (ap (λ t. begin_within t (e ∷ [])) (sym (later s Unchanged es _ (2 * length es) (omega arith))) ∙ last)

-- The states around a call. Its event is added to the record, or the record is full and the call did nothing.
module _ (s : DiskState) (es more : List Event) (e : Event) (calls next room : ℕ) (grows : more ≡ with_one_more room es e) (long : length es ≡ min calls room) (long_next : length more ≡ min next room) (counted : next ≡ next_count calls) (full : room ≤ calls → e ≡ Unchanged) where
  added : calls < room → more ≡ es ++ e ∷ []
  added lt = grows ∙ ap (λ b. cond b (es ++ e ∷ []) es) (lt-ltb (length es) room (omega arith))

  kept : room ≤ calls → more ≡ es
  kept le = grows ∙ ap (λ b. cond b (es ++ e ∷ []) es) (le-ltb (length es) room (omega arith))

  -- a full record stays where it is
  stays : room ≤ calls → (m : ℕ) → 2 * length es ≤ m → state_at s more m ≡ state_at s es (2 * calls)
  stays le m far = ap (λ (xs : List Event). state_at s xs m) (kept le) ∙ state_at-end s es m far ∙ sym (state_at-end s es (2 * calls) (omega arith))

  -- the moments up to its start
  pub state-past : (m : ℕ) → m ≤ 2 * calls → state_at s more m ≡ state_at s es m
  state-past m le =
      ⊎_elim
      (λ lt. ap (λ (xs : List Event). state_at s xs m) (added lt) ∙ state_at-append s es e m (omega arith))
      (λ ge. ap (λ (xs : List Event). state_at s xs m) (kept ge))
      (cases_lt calls room)

  -- inside it
  pub state-inside : state_at s more (2 * calls + 1) ≡ state_inside (state_at s es (2 * calls)) e
  state-inside =
      ⊎_elim
      (λ (lt : calls < room).
      let same : length es ≡ calls = omega arith in
      ap (λ (xs : List Event). state_at s xs (2 * calls + 1)) (added lt) ∙ ap (λ n. state_at s (es ++ e ∷ []) (2 * n + 1)) (sym same) ∙ state_at-inside s es e
      ∙ ap (λ n. state_inside (state_at s es (2 * n)) e) same)
      (λ (ge : room ≤ calls). stays ge (2 * calls + 1) (omega arith) ∙ ap (λ x. state_inside (state_at s es (2 * calls)) x) (sym (full ge)))
      (cases_lt calls room)

  -- after it
  pub state-after : state_at s more (2 * next) ≡ state_after (state_at s es (2 * calls)) e
  state-after =
      ⊎_elim
      (λ (lt : calls < room).
      let same : length es ≡ calls = omega arith in
      let longer : length more ≡ length es + 1 = ap (λ (xs : List Event). length xs) (added lt) ∙ length-append es (e ∷ []) in
      let two : 2 * next ≡ 2 * length es + 2 = omega (arith, counted, next_count-le calls) in
      ap (λ (xs : List Event). state_at s xs (2 * next)) (added lt) ∙ ap (state_at s (es ++ e ∷ [])) two ∙ state_at-after s es e
      ∙ ap (λ n. state_after (state_at s es (2 * n)) e) same)
      (λ (ge : room ≤ calls).
      let same : length more ≡ length es = ap (λ (xs : List Event). length xs) (kept ge) in
      stays ge (2 * next) (omega arith) ∙ ap (λ x. state_after (state_at s es (2 * calls)) x) (sym (full ge)))
      (cases_lt calls room)
