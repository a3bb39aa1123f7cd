-- What a step finds decides the rest of its row.
use Rattle.std.proofs.Common.{◌≡◌, if◌then◌else◌, ◌==◌, ◌&&◌, ◌||◌, ℕ, ◌+◌, ◌-◌, ◌≤◌, inl, inr, ⊎_elim, Bool, true, false, refl, sym, ap, ◌∙◌, arith}
use Rattle.store_spec.proofs.Common.{Begun, Chosen, Done, Down, Fits, Owing, Quiet, Up, WithdrawNote, WithdrawRow, WithdrawState, and_from, and_parts, began, cases_Bool, cond-false, cond-true, emptied, eq-eqb, eqb-true, found_candidate, found_lower_candidate, found_owed, kept_candidate, le-leb, le-ltb, leb-true, looked_higher, looked_lower, lost, lt-ltb, nat_le, nat_lt, ne_eqb, refilled, walked_on}
use Rattle.std.proofs.lemmas.Bool.{ltb-true, or_left, or_right, or_cases}
use Rattle.store_spec.specs.WithdrawStep.WithdrawState.{Rest}

-- the rest of a row
record Outcome : Type 0 where
  word : ℕ
  left : ℕ
  new : WithdrawState
  note : WithdrawNote

abbrev leaves : ℕ → ℕ → WithdrawState → WithdrawNote → Outcome
leaves word left new note = record { word = word; left = left; new = new; note = note }

-- ---- a test of what fits

abbrev fits_test : (ℕ → ℕ) → ℕ → ℕ → ℕ → Bool
fits_test home x hole word = word == 0 || (nat_le (home word) hole && nat_lt word x)

fits_yes : (home : ℕ → ℕ) (x hole word : ℕ) → Fits home x hole word → fits_test home x hole word ≡ true
fits_yes home x hole word f = ⊎_elim
    (λ (e : word ≡ 0). or_left (word == 0) _ (eq-eqb word 0 e))
    (λ h. or_right (word == 0) _ (and_from _ _ (le-leb (home word) hole h.0) (lt-ltb word x h.1)))
    f

fits_no : (home : ℕ → ℕ) (x hole word : ℕ) → ¬ Fits home x hole word → fits_test home x hole word ≡ false
fits_no home x hole word misfit = ⊎_elim
    (λ (e : fits_test home x hole word ≡ true). absurd (misfit (⊎_elim
    (λ zero_word. inl (eqb-true word 0 zero_word))
    (λ both. let parts = and_parts _ _ both in inr (leb-true (home word) hole parts.0, ltb-true word x parts.1))
    (or_cases _ _ e))))
    (λ e. e)
    (cases_Bool (fits_test home x hole word))

-- ---- the rows as a function of the state and the word that is found

abbrev after_down : (ℕ → ℕ) → ℕ → ℕ → ℕ → ℕ → ℕ → ℕ → Outcome
after_down home x bound place c source found =
    if fits_test home x bound found
    then leaves place found (Down x bound (place - 1) found place) Quiet
    else leaves place found (Down x bound (place - 1) c source) Quiet

abbrev after_exchange : ℕ → ℕ → ℕ → ℕ → ℕ → Outcome
after_exchange x bound c source found =
    if found == x
    then (if c == 0 then leaves bound 0 Rest Done else leaves bound c (Owing c source) Quiet)
    else leaves bound found (Owing x (bound - 1)) Quiet

abbrev outcome : (ℕ → ℕ) → WithdrawState → ℕ → Outcome
outcome home Rest found = leaves 0 found Rest Quiet
outcome home (Chosen x place) found = if nat_lt x found then leaves place found (Chosen x (place + 1)) Quiet else leaves place found (Owing x place) Begun
outcome home (Owing x bound) found = if found == x then leaves bound x (Up x bound (bound + 1)) Quiet else leaves bound found (Owing x (bound - 1)) Quiet
outcome home (Up x bound place) found = if fits_test home x bound found then leaves place found (Down x bound (place - 1) found place) Quiet else leaves place found (Up x bound (place + 1)) Quiet
outcome home (Down x bound place c source) found = if place == bound then after_exchange x bound c source found else after_down home x bound place c source found

one_less : (place : ℕ) → place ≡ place + 1 - 1
one_less place = omega arith

above : (home : ℕ → ℕ) (x bound place c source found : ℕ) → bound ≤ place → outcome home (Down x bound (place + 1) c source) found ≡ after_down home x bound (place + 1) c source found
above home x bound place c source found le = cond-false (place + 1 == bound) _ _ (ne_eqb (place + 1) bound (λ e. omega arith))

at_hole : (home : ℕ → ℕ) (x bound c source found : ℕ) → outcome home (Down x bound bound c source) found ≡ after_exchange x bound c source found
at_hole home x bound c source found = cond-true (bound == bound) _ _ (eq-eqb bound bound refl)

row_outcome : (home : ℕ → ℕ) (from : WithdrawState) (word found left : ℕ) (new : WithdrawState) (note : WithdrawNote) → WithdrawRow home from word found left new note → leaves word left new note ≡ outcome home from found
row_outcome home _ _ _ _ _ _ (walked_on {x} {place} {word} less) = sym (cond-true (nat_lt x word) _ _ (lt-ltb x word less))
row_outcome home _ _ _ _ _ _ (began {x} {place} {word} stops) = sym (cond-false (nat_lt x word) _ _ (le-ltb x word stops))
row_outcome home _ _ _ _ _ _ (found_owed {x} {bound}) = sym (cond-true (x == x) _ _ (eq-eqb x x refl))
row_outcome home _ _ _ _ _ _ (looked_lower {x} {bound} {word} other) =
    ap (λ b. leaves (bound + 1) word (Owing x b) Quiet) (one_less bound) ∙ sym (cond-false (word == x) _ _ (ne_eqb word x other))
row_outcome home _ _ _ _ _ _ (looked_higher {x} {bound} {place} {word} misfit) = sym (cond-false (fits_test home x bound word) _ _ (fits_no home x bound word misfit))
row_outcome home _ _ _ _ _ _ (found_candidate {x} {bound} {place} {word} fits) =
    ap (λ p. leaves (place + 1) word (Down x bound p word (place + 1)) Quiet) (one_less place)
    ∙ sym (cond-true (fits_test home x bound word) _ _ (fits_yes home x bound word fits))
row_outcome home _ _ _ _ _ _ (found_lower_candidate {x} {bound} {place} {c} {source} {word} le fits) =
    ap (λ p. leaves (place + 1) word (Down x bound p word (place + 1)) Quiet) (one_less place)
    ∙ sym (cond-true (fits_test home x bound word) _ _ (fits_yes home x bound word fits))
    ∙ sym (above home x bound place c source word le)
row_outcome home _ _ _ _ _ _ (kept_candidate {x} {bound} {place} {c} {source} {word} le misfit) =
    ap (λ p. leaves (place + 1) word (Down x bound p c source) Quiet) (one_less place)
    ∙ sym (cond-false (fits_test home x bound word) _ _ (fits_no home x bound word misfit))
    ∙ sym (above home x bound place c source word le)
row_outcome home _ _ _ _ _ _ (emptied {x} {bound} {source}) =
    sym (cond-true (x == x) _ _ (eq-eqb x x refl)) ∙ sym (at_hole home x bound 0 source x)
row_outcome home _ _ _ _ _ _ (refilled {x} {bound} {c} {source} some) =
    sym (cond-false (c == 0) _ _ (ne_eqb c 0 some)) ∙ sym (cond-true (x == x) _ _ (eq-eqb x x refl)) ∙ sym (at_hole home x bound c source x)
row_outcome home _ _ _ _ _ _ (lost {x} {bound} {c} {source} {word} other) =
    ap (λ b. leaves (bound + 1) word (Owing x b) Quiet) (one_less bound)
    ∙ sym (cond-false (word == x) _ _ (ne_eqb word x other)) ∙ sym (at_hole home x (bound + 1) c source word)

pub one_row : (home : ℕ → ℕ) (from : WithdrawState) (v w found l k : ℕ) (a b : WithdrawState) (m n : WithdrawNote) → WithdrawRow home from v found l a m → WithdrawRow home from w found k b n → (v ≡ w) × (l ≡ k) × (a ≡ b) × (m ≡ n)
one_row home from v w found l k a b m n one two =
    let same = row_outcome home from v found l a m one ∙ sym (row_outcome home from w found k b n two) in
    (ap (λ o. o.word) same, ap (λ o. o.left) same, ap (λ o. o.new) same, ap (λ o. o.note) same)
