-- What is left of the steps for a number, as one number that falls.
use Rattle.std.proofs.Common.{◌≡◌, ℕ, suc, ◌+◌, ◌-◌, ◌*◌, ◌<◌, ◌≤◌, inl, inr, List, [], ◌∷◌, length, refl, subst, sym, ◌∙◌, arith}
use Rattle.store_spec.proofs.Common.{All, All-cons, All-head, All-nil, All-tail, Chosen, Down, Falls, Fits, Owing, Up, WithdrawNote, WithdrawRow, WithdrawState, began, emptied, found_candidate, found_lower_candidate, found_owed, kept_candidate, left_by, looked_higher, looked_lower, lost, mul-le-mul_right, refilled, walked_on, withdraw_act, withdraw_measure, word_of}
use Rattle.std.specs.Bool.{⊤}
use Rattle.step_core.specs.WithdrawTables.{LeadsTo}
use Rattle.store_spec.specs.WithdrawStep.WithdrawState.{Rest}

-- ---- lists of digits

-- a list of digits as one number, behind those that were read
abbrev pub read_on : ℕ → ℕ → List ℕ → ℕ
read_on base sum [] = sum
read_on base sum (n ∷ ns) = read_on base (sum * base + n) ns

less_read : (base sum_now sum : ℕ) (now before : List ℕ) → sum_now < sum → length now ≡ length before → All (λ n. n < base) now → read_on base sum_now now < read_on base sum before
less_read base sum_now sum [] [] less same small = less
less_read base sum_now sum [] (b ∷ before) less same small = absurd (omega arith)
less_read base sum_now sum (n ∷ now) [] less same small = absurd (omega arith)
less_read base sum_now sum (n ∷ now) (b ∷ before) less same small =
    let fits : n < base = All-head (λ m. m < base) n now small in
    let more : suc sum_now * base ≤ sum * base = mul-le-mul_right base less in
    less_read base (sum_now * base + n) (sum * base + b) now before (omega (arith, more)) (omega arith) (All-tail (λ m. m < base) n now small)

read_falls : (base sum : ℕ) (now before : List ℕ) → length now ≡ length before → All (λ n. n < base) now → Falls now before → read_on base sum now < read_on base sum before
read_falls base sum [] before same small falls = absurd falls
read_falls base sum (n ∷ now) [] same small falls = absurd falls
read_falls base sum (n ∷ now) (b ∷ before) same small (inl less) = less_read base (sum * base + n) (sum * base + b) now before (omega arith) (omega arith) (All-tail (λ m. m < base) n now small)
read_falls base sum (n ∷ now) (b ∷ before) same small (inr (equal, falls)) =
    subst (λ m. read_on base (sum * base + n) now < read_on base (sum * base + m) before) equal
    (read_falls base (sum * base + n) now before (omega arith) (All-tail (λ m. m < base) n now small) falls)

-- ---- states of a withdrawer

-- the owed number is not above the one that was chosen, and the places are few
abbrev pub IsBounded : ℕ → ℕ → WithdrawState → Type 0
IsBounded top cells Rest = ⊤
IsBounded top cells (Chosen x place) = x ≤ top
IsBounded top cells (Owing x bound) = (x ≤ top) × (bound < 2 * cells)
IsBounded top cells (Up x bound place) = (x ≤ top) × (bound < 2 * cells) × (place ≤ 2 * cells)
IsBounded top cells (Down x bound place c source) = (x ≤ top) × (bound < 2 * cells) × (place < 2 * cells) × (c ≤ top) × (source < 2 * cells)

-- where all but the last digits are the same, the last one falls
last_falls : (x bound now before : ℕ) → Falls (0 ∷ x ∷ bound ∷ now ∷ []) (0 ∷ x ∷ bound ∷ before ∷ []) → now < before
last_falls x bound now before (inl less) = absurd (omega arith)
last_falls x bound now before (inr (_, inl less)) = absurd (omega arith)
last_falls x bound now before (inr (_, inr (_, inl less))) = absurd (omega arith)
last_falls x bound now before (inr (_, inr (_, inr (_, inl less)))) = less
last_falls x bound now before (inr (_, inr (_, inr (_, inr (_, none))))) = absurd none

-- a walk ends before it is used up
walk_left : (walk x bound looks : ℕ) → Falls (0 ∷ x ∷ bound ∷ looks ∷ []) (walk ∷ 0 ∷ 0 ∷ 0 ∷ []) → 0 < walk
walk_left walk x bound looks (inl less) = less
walk_left walk x bound looks (inr (_, inl less)) = absurd (omega arith)
walk_left walk x bound looks (inr (_, inr (_, inl less))) = absurd (omega arith)
walk_left walk x bound looks (inr (_, inr (_, inr (_, inl less)))) = absurd (omega arith)
walk_left walk x bound looks (inr (_, inr (_, inr (_, inr (_, none))))) = absurd none

fits_below : (home : ℕ → ℕ) (x bound word top : ℕ) → x ≤ top → Fits home x bound word → word ≤ top
fits_below home x bound word top few (inl zero) = omega arith
fits_below home x bound word top few (inr (_, less)) = omega arith

module _ (home : ℕ → ℕ) (top cells : ℕ) where
  bounded_by : (from : WithdrawState) (word found left : ℕ) (new : WithdrawState) (note : WithdrawNote) → WithdrawRow home from word found left new note → Falls (withdraw_measure cells new) (withdraw_measure cells from) → IsBounded top cells from → IsBounded top cells new
  bounded_by _ _ _ _ _ _ (walked_on less) falls h = h
  bounded_by _ _ _ _ _ _ (began {x} {place} stops) falls h = (h, omega (arith, walk_left (cells - place) x place (2 * cells) falls))
  bounded_by _ _ _ _ _ _ (found_owed {x} {bound}) falls h = (h.0, h.1, omega (arith, h.1))
  bounded_by _ _ _ _ _ _ (looked_lower other) falls h = (h.0, omega (arith, h.1))
  bounded_by _ _ _ _ _ _ (looked_higher {x} {bound} {place} misfit) falls h = (h.0, h.1, omega (arith, last_falls x bound (2 * cells - (place + 1)) (2 * cells - place) falls))
  bounded_by _ _ _ _ _ _ (found_candidate {x} {bound} {place} {word} fits) falls h =
      let left = last_falls x bound (place - bound) (2 * cells - (place + 1)) falls in
      (h.0, h.1, omega arith, fits_below home x bound word top h.0 fits, omega arith)
  bounded_by _ _ _ _ _ _ (found_lower_candidate {x} {bound} {place} {c} {source} {word} above fits) falls h =
      (h.0, h.1, omega (arith, h.2), fits_below home x bound word top h.0 fits, h.2)
  bounded_by _ _ _ _ _ _ (kept_candidate above misfit) falls h = (h.0, h.1, omega (arith, h.2), h.3, h.4)
  bounded_by _ _ _ _ _ _ emptied falls h = tt
  bounded_by _ _ _ _ _ _ (refilled some) falls h = (h.3, h.4)
  bounded_by _ _ _ _ _ _ (lost other) falls h = (h.0, omega (arith, h.1))

  -- a step keeps the bounds
  pub stays_bounded : (from : WithdrawState) (found : ℕ) (new : WithdrawState) (note : WithdrawNote) → LeadsTo home from found new note → Falls (withdraw_measure cells new) (withdraw_measure cells from) → IsBounded top cells from → IsBounded top cells new
  stays_bounded from found new note leads = bounded_by from (word_of (withdraw_act from)) found (left_by (withdraw_act from) found) new note leads

-- ---- the measure

-- more than each digit of a measure
abbrev pub digits_of : ℕ → ℕ → ℕ
digits_of top cells = top + 2 * cells + 1

abbrev pub work_left : ℕ → ℕ → WithdrawState → ℕ
work_left top cells state = read_on (digits_of top cells) 0 (withdraw_measure cells state)

four_below : (base a b c d : ℕ) → a < base → b < base → c < base → d < base → All (λ n. n < base) (a ∷ b ∷ c ∷ d ∷ [])
four_below base a b c d one two three four =
    let P : ℕ → Type 0 = λ n. n < base in
    All-cons P a (b ∷ c ∷ d ∷ []) one (All-cons P b (c ∷ d ∷ []) two (All-cons P c (d ∷ []) three (All-cons P d [] four (All-nil P))))

digits_below : (top cells : ℕ) (state : WithdrawState) → IsBounded top cells state → All (λ n. n < digits_of top cells) (withdraw_measure cells state)
digits_below top cells Rest h = four_below (digits_of top cells) 0 0 0 0 (omega arith) (omega arith) (omega arith) (omega arith)
digits_below top cells (Chosen x place) h = four_below (digits_of top cells) (cells - place) 0 0 0 (omega arith) (omega arith) (omega arith) (omega arith)
digits_below top cells (Owing x bound) h = four_below (digits_of top cells) 0 x bound (2 * cells) (omega arith) (omega (arith, h.0)) (omega (arith, h.1)) (omega arith)
digits_below top cells (Up x bound place) h = four_below (digits_of top cells) 0 x bound (2 * cells - place) (omega arith) (omega (arith, h.0)) (omega (arith, h.1)) (omega arith)
digits_below top cells (Down x bound place c source) h = four_below (digits_of top cells) 0 x bound (place - bound) (omega arith) (omega (arith, h.0)) (omega (arith, h.1)) (omega (arith, h.2))

four_digits : (cells : ℕ) (state : WithdrawState) → length (withdraw_measure cells state) ≡ 4
four_digits cells Rest = refl
four_digits cells (Chosen x place) = refl
four_digits cells (Owing x bound) = refl
four_digits cells (Up x bound place) = refl
four_digits cells (Down x bound place c source) = refl

pub work_falls : (top cells : ℕ) (now before : WithdrawState) → IsBounded top cells now → Falls (withdraw_measure cells now) (withdraw_measure cells before) → work_left top cells now < work_left top cells before
work_falls top cells now before h falls =
    read_falls (digits_of top cells) 0 (withdraw_measure cells now) (withdraw_measure cells before) (four_digits cells now ∙ sym (four_digits cells before)) (digits_below top cells now h) falls
