-- The first line of a text, and the lines behind it.
use Rattle.std.proofs.Common.{◌≡◌, ℕ, zero, suc, ◌+◌, ◌-◌, ◌<◌, ◌≤◌, Bool, true, false, not, cond, eqb, List, [], ◌∷◌, ◌++◌, length, take, drop, replicate, refl, ap, sym, ◌∙◌, arith}
use Rattle.store_spec.proofs.Common.{IsTooLong, begun_with, cases_lt, continued, drop-take, drop_all, ended_lines, first_width, length-take-le, line_end, lines_of, lines_within, lt-leb, take-take, take_all}
use Rattle.std.proofs.Common.{inl, inr, le-leb, length-drop}

-- the width of a line that begins with this byte
abbrev width_of : Bool → ℕ → ℕ
width_of ends width = cond (not ends) (1 + width) 0

pub first_width-le : (text : List ℕ) → first_width text ≤ length text
first_width-le [] = omega arith
first_width-le (b ∷ text) =
    let both : (ends : Bool) → width_of ends (first_width text) ≤ suc (length text) = elim [ true ↦ omega arith | false ↦ omega (arith, first_width-le text) ] in
    both (eqb b line_end)

-- a text with no line end
pub first_width-append : (front rest : List ℕ) → first_width front ≡ length front → first_width (front ++ rest) ≡ length front + first_width rest
first_width-append [] rest none = omega arith
first_width-append (b ∷ front) rest none =
    let both : (ends : Bool) → width_of ends (first_width front) ≡ suc (length front) → width_of ends (first_width (front ++ rest)) ≡ suc (length front) + first_width rest = elim [
      | true ↦ λ h. absurd (omega arith)
      | false ↦ λ h. omega (arith, first_width-append front rest (omega arith))
    ] in
    both (eqb b line_end) none

-- what stands before the first line end stays there
pub first_width-more : (front rest : List ℕ) → first_width front ≤ first_width (front ++ rest)
first_width-more [] rest = omega arith
first_width-more (b ∷ front) rest =
    let both : (ends : Bool) → width_of ends (first_width front) ≤ width_of ends (first_width (front ++ rest)) = elim [
      | true ↦ omega arith
      | false ↦ omega (arith, first_width-more front rest)
    ] in
    both (eqb b line_end)

-- a line end stays the first one
pub first_width-same : (front rest : List ℕ) → first_width front < length front → first_width (front ++ rest) ≡ first_width front
first_width-same [] rest ends = absurd (omega arith)
first_width-same (b ∷ front) rest ends =
    let both : (is_end : Bool) → width_of is_end (first_width front) < suc (length front) → width_of is_end (first_width (front ++ rest)) ≡ width_of is_end (first_width front) = elim [
      | true ↦ λ h. refl
      | false ↦ λ h. omega (arith, first_width-same front rest (omega arith))
    ] in
    both (eqb b line_end) ends

pub first_width-zeros : (n : ℕ) → first_width (replicate n 0) ≡ n
first_width-zeros zero = refl
first_width-zeros (suc n) = omega (arith, first_width-zeros n)

-- The first line and the others, where it has an end, by two ways of cutting: `lines_of` and `ended_lines`.
module _ (cut : List ℕ → List (List ℕ)) (grow : ℕ → List (List ℕ) → List (List ℕ)) (step : (byte : ℕ) (text : List ℕ) → cut (byte ∷ text) ≡ cond (eqb byte line_end) ([] ∷ cut text) (grow byte (cut text))) (grown : (byte : ℕ) (line : List ℕ) (lines : List (List ℕ)) → grow byte (line ∷ lines) ≡ (byte ∷ line) ∷ lines) where
  cut-ended : (text : List ℕ) → first_width text < length text → cut text ≡ take (first_width text) text ∷ cut (drop (first_width text + 1) text)
  cut-ended [] ends = absurd (omega arith)
  cut-ended (b ∷ text) ends =
      let w = first_width text in
      let one : 1 + w ≡ suc w = omega arith in
      let two : 1 + w + 1 ≡ suc (w + 1) = omega arith in
      let both : (is_end : Bool) → width_of is_end w < suc (length text) → cond is_end ([] ∷ cut text) (grow b (cut text)) ≡ take (width_of is_end w) (b ∷ text) ∷ cut (drop (width_of is_end w + 1) (b ∷ text)) = elim [
        | true ↦ λ h. refl
        | false ↦ λ h.
            ap (grow b) (cut-ended text (omega arith)) ∙ grown b (take w text) (cut (drop (w + 1) text))
            ∙ sym (ap (λ n. take n (b ∷ text) ∷ cut (drop (1 + w + 1) (b ∷ text))) one ∙ ap (λ n. (b ∷ take w text) ∷ cut (drop n (b ∷ text))) two)
      ] in
      step b text ∙ both (eqb b line_end) ends

pub lines_of-ended : (text : List ℕ) → first_width text < length text → lines_of text ≡ take (first_width text) text ∷ lines_of (drop (first_width text + 1) text)
lines_of-ended = cut-ended lines_of begun_with (λ byte text. refl) (λ byte line lines. refl)

pub ended_lines-ended : (text : List ℕ) → first_width text < length text → ended_lines text ≡ take (first_width text) text ∷ ended_lines (drop (first_width text + 1) text)
ended_lines-ended = cut-ended ended_lines continued (λ byte text. refl) (λ byte line lines. refl)

-- the only line, where it has none
pub lines_of-last : (text : List ℕ) → first_width text ≡ length text → 0 < length text → lines_of text ≡ text ∷ []
lines_of-last [] none some = absurd (omega arith)
lines_of-last (b ∷ []) none some =
    let both : (is_end : Bool) → width_of is_end 0 ≡ 1 → cond is_end ([] ∷ []) ((b ∷ []) ∷ []) ≡ (b ∷ []) ∷ [] = elim [
      | true ↦ λ h. absurd (omega arith)
      | false ↦ λ h. refl
    ] in
    both (eqb b line_end) none
lines_of-last (b ∷ c ∷ text) none some =
    let both : (is_end : Bool) → width_of is_end (first_width (c ∷ text)) ≡ suc (length (c ∷ text)) → cond is_end ([] ∷ lines_of (c ∷ text)) (begun_with b (lines_of (c ∷ text))) ≡ (b ∷ c ∷ text) ∷ [] = elim [
      | true ↦ λ h. absurd (omega arith)
      | false ↦ λ h. ap (begun_with b) (lines_of-last (c ∷ text) (omega arith) (omega arith))
    ] in
    both (eqb b line_end) none

-- where the front of a text has its first line end
pub first_width-take : (n : ℕ) (text : List ℕ) → first_width text < n → first_width (take n text) ≡ first_width text
first_width-take zero text ends = absurd (omega arith)
first_width-take (suc n) [] ends = refl
first_width-take (suc n) (b ∷ text) ends =
    let both : (is_end : Bool) → width_of is_end (first_width text) < suc n → width_of is_end (first_width (take n text)) ≡ width_of is_end (first_width text) = elim [
      | true ↦ λ h. refl
      | false ↦ λ h. omega (arith, first_width-take n text (omega arith))
    ] in
    both (eqb b line_end) ends

pub first_width-take_none : (n : ℕ) (text : List ℕ) → n ≤ first_width text → first_width (take n text) ≡ n
first_width-take_none zero text none = refl
first_width-take_none (suc n) [] none = absurd (omega arith)
first_width-take_none (suc n) (b ∷ text) none =
    let both : (is_end : Bool) → suc n ≤ width_of is_end (first_width text) → width_of is_end (first_width (take n text)) ≡ suc n = elim [
      | true ↦ λ h. absurd (omega arith)
      | false ↦ λ h. omega (arith, first_width-take_none n text (omega arith))
    ] in
    both (eqb b line_end) none

-- no line ends
pub ended_lines-none : (text : List ℕ) → first_width text ≡ length text → ended_lines text ≡ []
ended_lines-none [] none = refl
ended_lines-none (b ∷ text) none =
    let both : (is_end : Bool) → width_of is_end (first_width text) ≡ suc (length text) → cond is_end ([] ∷ ended_lines text) (continued b (ended_lines text)) ≡ [] = elim [
      | true ↦ λ h. absurd (omega arith)
      | false ↦ λ h. ap (continued b) (ended_lines-none text (omega arith))
    ] in
    both (eqb b line_end) none

-- ---- the lines within a room

pub all_within : (room : ℕ) (text : List ℕ) → length text ≤ room → lines_within room text ≡ lines_of text
all_within room text within = ap (λ test. cond test (lines_of text) (ended_lines (take room text))) (le-leb (length text) room within)

pub front_within : (room : ℕ) (text : List ℕ) → room < length text → lines_within room text ≡ ended_lines (take room text)
front_within room text more = ap (λ test. cond test (lines_of text) (ended_lines (take room text))) (lt-leb (length text) room more)

within_ended : (room : ℕ) (text : List ℕ) → first_width text < length text → first_width text < room → lines_within room text ≡ take (first_width text) text ∷ lines_within (room - (first_width text + 1)) (drop (first_width text + 1) text)
within_ended room text ends within =
    let w = first_width text in
    let rest = drop (w + 1) text in
    let size = length-drop (w + 1) text in
    elim (cases_lt room (length text)) [
      | inl more ↦
          let front = take room text in
          let width : first_width front ≡ w = first_width-take room text within in
          let long : length front ≡ room = length-take-le room text (omega arith) in
          let place : w + 1 + (room - (w + 1)) ≡ room = omega arith in
          front_within room text more ∙ ended_lines-ended front (omega arith)
          ∙ ap (λ n. take n front ∷ ended_lines (drop (n + 1) front)) width
          ∙ ap (λ line. line ∷ ended_lines (drop (w + 1) front)) (take-take w room text (omega arith))
          ∙ ap (λ others. take w text ∷ ended_lines others) (ap (λ n. drop (w + 1) (take n text)) (sym place) ∙ drop-take (w + 1) (room - (w + 1)) text)
          ∙ ap (λ lines. take w text ∷ lines) (sym (front_within (room - (w + 1)) rest (omega arith)))
      | inr all ↦
          all_within room text all ∙ lines_of-ended text ends ∙ ap (λ lines. take w text ∷ lines) (sym (all_within (room - (w + 1)) rest (omega arith)))
    ]

within_last : (room room_left : ℕ) (text : List ℕ) → first_width text ≡ length text → 0 < length text → length text ≤ room → lines_within room text ≡ take (first_width text) text ∷ lines_within room_left (drop (first_width text + 1) text)
within_last room room_left text none some within =
    let w = first_width text in
    all_within room text within ∙ lines_of-last text none some
    ∙ ap (λ line. line ∷ []) (sym (take_all w text (omega arith)))
    ∙ ap (λ lines. take w text ∷ lines) (sym (ap (λ rest. lines_within room_left rest) (drop_all (w + 1) text (omega arith)) ∙ all_within room_left [] (omega arith)))

-- the first line that is taken, and those behind it
pub lines_within-first : (room room_left : ℕ) (text : List ℕ) → 0 < length text → ¬ IsTooLong text room → room + length (drop (first_width text + 1) text) ≡ room_left + length text → lines_within room text ≡ take (first_width text) text ∷ lines_within room_left (drop (first_width text + 1) text)
lines_within-first room room_left text some short counted =
    let w = first_width text in
    let size = length-drop (w + 1) text in
    elim (cases_lt w (length text)) [
      | inl ends ↦ elim (cases_lt w room) [
        | inl within ↦
            let left : room - (w + 1) ≡ room_left = omega (arith, counted, size) in
            within_ended room text ends within ∙ ap (λ k. take w text ∷ lines_within k (drop (w + 1) text)) left
        | inr past ↦ absurd (short (record { more = omega arith; no_end = past }))
      ]
      | inr last ↦
          let none : w ≡ length text = omega (arith, first_width-le text) in
          elim (cases_lt room (length text)) [
            | inl more ↦ absurd (short (record { more = more; no_end = omega arith }))
            | inr within ↦ within_last room room_left text none some within
          ]
    ]

pub lines_within-none : (room : ℕ) → lines_within room [] ≡ []
lines_within-none room = all_within room [] (omega arith)

pub lines_within-too_long : (room : ℕ) (text : List ℕ) → IsTooLong text room → lines_within room text ≡ []
lines_within-too_long room text long =
    let none = first_width-take_none room text long.no_end in
    front_within room text long.more ∙ ended_lines-none (take room text) (none ∙ sym (length-take-le room text (omega (arith, long.more))))
