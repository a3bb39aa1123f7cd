-- A front of a text whose lines all have an end, and what comes behind it.
use Rattle.std.proofs.Common.{◌≡◌, ℕ, zero, suc, ◌+◌, ◌<◌, ◌≤◌, Bool, true, false, cond, eqb, List, [], ◌∷◌, ◌++◌, length, take, refl, ap, sym, ◌∙◌, inl, inr, ⊎_elim, subst, arith, length-append}
use Rattle.store_spec.proofs.Common.{begun_with, cases_lt, continued, ended_lines, line_end, lines_of, lines_within, take-append-add, take-take}
use Rattle.outside_io.proofs.FirstLine.{all_within, front_within}

-- each line of the front has an end
abbrev pub IsWhole : List ℕ → Type 0
IsWhole front = ended_lines front ≡ lines_of front

-- only a text of no bytes has no line
no_lines : (text : List ℕ) → lines_of text ≡ [] → text ≡ []
no_lines [] none = refl
no_lines (byte ∷ text) none =
    let both : (ends : Bool) → cond ends ([] ∷ lines_of text) (begun_with byte (lines_of text)) ≡ [] → byte ∷ text ≡ [] = elim [
      | true ↦ λ h. absurd cc
      | false ↦ λ h. absurd (begun byte (lines_of text) h)
    ] in
    both (eqb byte line_end) none
  where
    begun : (byte : ℕ) (lines : List (List ℕ)) → begun_with byte lines ≡ [] → ⊥
    begun byte [] is = cc
    begun byte (line ∷ lines) is = cc

-- the front behind a byte that is no line end has a line
record IsCarried (ended lines : List (List ℕ)) : Type 0 where
  line : List ℕ
  others : List (List ℕ)
  in_ended : ended ≡ line ∷ others
  in_lines : lines ≡ line ∷ others

carried : (byte : ℕ) (ended lines : List (List ℕ)) → (lines ≡ [] → ended ≡ []) → continued byte ended ≡ begun_with byte lines → IsCarried ended lines
carried byte ended [] none same = absurd (let gone : continued byte ended ≡ [] = ap (continued byte) (none refl) in let is : [] ≡ (byte ∷ []) ∷ [] = sym gone ∙ same in cc)
carried byte [] (l ∷ lines) none same = absurd cc
carried byte (e ∷ ended) (l ∷ lines) none same =
    let first : e ≡ l = cc in
    let rest : ended ≡ lines = cc in
    record { line = l; others = lines; in_ended = ap (λ line. line ∷ ended) first ∙ ap (λ others. l ∷ others) rest; in_lines = refl }

-- Two ways of cutting, `lines_of` and `ended_lines`, which differ in what a byte that is no line end does to no lines.
module _ (cut : List ℕ → List (List ℕ)) (grow : ℕ → List (List ℕ) → List (List ℕ)) (empty : cut [] ≡ []) (step : (byte : ℕ) (text : List ℕ) → cut (byte ∷ text) ≡ cond (eqb byte line_end) ([] ∷ cut text) (grow byte (cut text))) (grown : (byte : ℕ) (line : List ℕ) (lines : List (List ℕ)) → grow byte (line ∷ lines) ≡ (byte ∷ line) ∷ lines) where
  -- behind a front whose lines all have an end
  cut-append : (front rest : List ℕ) → IsWhole front → cut (front ++ rest) ≡ lines_of front ++ cut rest
  cut-append [] rest whole = refl
  cut-append (byte ∷ front) rest whole =
      let lines = lines_of front in
      let ended = ended_lines front in
      let all = cut (front ++ rest) in
      let both : (ends : Bool) → cond ends ([] ∷ ended) (continued byte ended) ≡ cond ends ([] ∷ lines) (begun_with byte lines)
      → cond ends ([] ∷ all) (grow byte all) ≡ cond ends ([] ∷ lines) (begun_with byte lines) ++ cut rest = elim [
        | true ↦ λ h. let same : ended ≡ lines = cc in ap (λ others. [] ∷ others) (cut-append front rest same)
        | false ↦ λ h.
            let c = carried byte ended lines (λ none. ap ended_lines (no_lines front none)) h in
            let more = cut-append front rest (c.in_ended ∙ sym c.in_lines) in
            ap (grow byte) (more ∙ ap (λ ls. ls ++ cut rest) c.in_lines) ∙ grown byte c.line (c.others ++ cut rest)
            ∙ ap (λ ls. begun_with byte ls ++ cut rest) (sym c.in_lines)
      ] in
      step byte (front ++ rest) ∙ both (eqb byte line_end) whole

  -- the lines that end in a front are the first
  cut-front : (n : ℕ) (text : List ℕ) → ended_lines (take n text) ≡ take (length (ended_lines (take n text))) (cut text)
  cut-front zero text = refl
  cut-front (suc n) [] = refl
  cut-front (suc n) (byte ∷ text) =
      let front = ended_lines (take n text) in
      let lines = cut text in
      let more = cut-front n text in
      let grows : (front lines : List (List ℕ)) → front ≡ take (length front) lines → continued byte front ≡ take (length (continued byte front)) (grow byte lines) = elim [
        | [] ↦ λ lines is. refl
        | f ∷ others ↦ elim [
          | [] ↦ λ is. absurd cc
          | l ∷ lines ↦ λ is.
              let first : f ≡ l = cc in
              let rest : others ≡ take (length others) lines = cc in
              ap (λ line. (byte ∷ line) ∷ others) first ∙ ap (λ rest. (byte ∷ l) ∷ rest) rest ∙ ap (take (suc (length others))) (sym (grown byte l lines))
        ]
      ] in
      let both : (ends : Bool) → cond ends ([] ∷ front) (continued byte front) ≡ take (length (cond ends ([] ∷ front) (continued byte front))) (cond ends ([] ∷ lines) (grow byte lines)) = elim [
        | true ↦ ap (λ rest. [] ∷ rest) more
        | false ↦ grows front lines more
      ] in
      both (eqb byte line_end) ∙ ap (take (length (ended_lines (take (suc n) (byte ∷ text))))) (sym (step byte text))

pub lines_of-append : (front rest : List ℕ) → IsWhole front → lines_of (front ++ rest) ≡ lines_of front ++ lines_of rest
lines_of-append = cut-append lines_of begun_with refl (λ byte text. refl) (λ byte line lines. refl)

pub ended_lines-append : (front rest : List ℕ) → IsWhole front → ended_lines (front ++ rest) ≡ lines_of front ++ ended_lines rest
ended_lines-append = cut-append ended_lines continued refl (λ byte text. refl) (λ byte line lines. refl)

-- the lines within a room, which the front takes up in part
pub lines_within-append : (room left : ℕ) (front rest : List ℕ) → IsWhole front → left + length front ≡ room → lines_within room (front ++ rest) ≡ lines_of front ++ lines_within left rest
lines_within-append room left front rest whole counted =
    let size = length-append front rest in
    elim (cases_lt room (length (front ++ rest))) [
      | inl more ↦
          let place : room ≡ length front + left = omega arith in
          front_within room (front ++ rest) more ∙ ap (λ n. ended_lines (take n (front ++ rest))) place ∙ ap ended_lines (take-append-add front rest left)
          ∙ ended_lines-append front (take left rest) whole ∙ ap (λ ls. lines_of front ++ ls) (sym (front_within left rest (omega arith)))
      | inr all ↦
          all_within room (front ++ rest) all ∙ lines_of-append front rest whole ∙ ap (λ ls. lines_of front ++ ls) (sym (all_within left rest (omega arith)))
    ]

-- the lines that end in a front are the first within a room
pub front_of_within : (n room : ℕ) (text : List ℕ) → n ≤ room → ended_lines (take n text) ≡ take (length (ended_lines (take n text))) (lines_within room text)
front_of_within n room text within = ⊎_elim
    (λ (more : room < length text).
    let cut : take n (take room text) ≡ take n text = take-take n room text within in
    let P : List ℕ → Type 0 = λ front. ended_lines front ≡ take (length (ended_lines front)) (ended_lines (take room text)) in
    subst P cut (cut-front ended_lines continued refl (λ byte text. refl) (λ byte line lines. refl) n (take room text)) ∙ ap (take (length (ended_lines (take n text)))) (sym (front_within room text more)))
    (λ (all : length text ≤ room).
    cut-front lines_of begun_with refl (λ byte text. refl) (λ byte line lines. refl) n text ∙ ap (take (length (ended_lines (take n text)))) (sym (all_within room text all)))
    (cases_lt room (length text))
