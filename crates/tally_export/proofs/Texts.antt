-- How the text of a tally is put, line by line.
use Rattle.std.proofs.Common.{◌≡◌, ℕ, zero, suc, ◌+◌, ◌-◌, ◌<◌, ◌≤◌, List, [], ◌∷◌, ◌++◌, get_or, take, map, refl, sym, ap, ◌∙◌, arith, append_assoc, get_or-take}
use Rattle.store_spec.proofs.Common.{Ballot, Election, choice_line, choices_of, contest_line, contest_lines, flat_map, flat_map-append, lines_text, overvotes, range_with_len, undervotes, votes}
use Rattle.tally_export.specs.Counted.{IsTallyOf}
use Rattle.tally_export.specs.declared.counts.Tally.{Tally}

-- what is left of the lines was put in part
pub lines_put : (lines others : List (List ℕ)) (before now whole : List ℕ)
    → before ++ lines_text (lines ++ others) ≡ whole → now ≡ before ++ lines_text lines
    → now ++ lines_text others ≡ whole
lines_put lines others before now whole so_far put =
    ap (λ text. text ++ lines_text others) put ∙ append_assoc before (lines_text lines) (lines_text others)
    ∙ ap (λ text. before ++ text) (sym (flat_map-append (λ line. line ++ 10 ∷ []) lines others)) ∙ so_far

-- one line more was put
pub line_put : (line : List ℕ) (lines : List (List ℕ)) (before now whole : List ℕ)
    → before ++ lines_text (line ∷ lines) ≡ whole → now ≡ before ++ (line ++ 10 ∷ []) → now ++ lines_text lines ≡ whole
line_put line lines before now whole so_far put = ap (λ text. text ++ lines_text lines) put
    ∙ append_assoc before (line ++ 10 ∷ []) (lines_text lines) ∙ so_far

-- the numbers that are left of those from 1 on
pub range_next : (i n : ℕ) → i < n → range_with_len (i + 1) (n - i) ≡ (i + 1) ∷ range_with_len (i + 1 + 1) (n - (i + 1))
range_next i n within = let more : n - i ≡ suc (n - (i + 1)) = omega arith in ap (range_with_len (i + 1)) more

-- the line of one choice more was put
pub choice_put : (k : ℕ) (counts : List ℕ) (n i : ℕ) (before now whole : List ℕ) → i < n
    → before ++ lines_text (map (λ c. choice_line k c (get_or counts (c - 1) 0)) (range_with_len (i + 1) (n - i))) ≡
    whole
    → now ≡ before ++ (choice_line k (i + 1) (get_or (take n counts) i 0) ++ 10 ∷ [])
    → now ++ lines_text (map (λ c. choice_line k c (get_or counts (c - 1) 0))
    (range_with_len (i + 1 + 1) (n - (i + 1)))) ≡ whole
choice_put k counts n i before now whole within so_far put =
    let line : ℕ → List ℕ = λ c. choice_line k c (get_or counts (c - 1) 0) in
    let back : i ≡ i + 1 - 1 = omega arith in
    line_put (line (i + 1)) (map line (range_with_len (i + 1 + 1) (n - (i + 1)))) before now whole
    (ap (λ cs. before ++ lines_text (map line cs)) (sym (range_next i n within)) ∙ so_far)
    (put ∙ ap (λ count. before ++ (choice_line k (i + 1) count ++ 10 ∷ []))
    (get_or-take n counts i 0 within ∙ ap (λ place. get_or counts place 0) back))

-- lines that are alike for each of some numbers
map_alike : (f g : ℕ → List ℕ) (a n : ℕ) → ((c : ℕ) → a ≤ c → c < a + n → f c ≡ g c)
    → map f (range_with_len a n) ≡ map g (range_with_len a n)
map_alike f g a zero alike = refl
map_alike f g a (suc n) alike =
    let first : f a ≡ g a = alike a (omega arith) (omega arith) in
    let rest : map f (range_with_len (a + 1) n) ≡ map g (range_with_len (a + 1) n) =
    map_alike f g (a + 1) n (λ c low high. alike c (omega arith) (omega arith)) in
    cc

-- the lines of a contest's choices say how many votes each has
choice_lines : (e : Election) (ballots : List Ballot) (t : Tally) (place : ℕ) → IsTallyOf e ballots t → place < 24
    → choices_of e (place + 1) ≤ 64
    → map (λ c. choice_line (place + 1) c (get_or (get_or t.choices place []) (c - 1) 0))
    (range_with_len 1 (choices_of e (place + 1)))
    ≡ map (λ c. choice_line (place + 1) c (votes e ballots (place + 1) c)) (range_with_len 1 (choices_of e (place + 1)))
choice_lines e ballots t place is known few =
    map_alike _ _ 1 (choices_of e (place + 1)) (λ c low high.
    let again : c - 1 + 1 ≡ c = omega arith in
    ap (choice_line (place + 1) c)
    (is.choices place (c - 1) known (omega arith) ∙ ap (votes e ballots (place + 1)) again))

-- the lines of one contest more were put
pub contest_put : (e : Election) (ballots : List Ballot) (t : Tally) (place n : ℕ) (before apart now whole : List ℕ)
    → IsTallyOf e ballots t
    → place < 24 → place < n → choices_of e (place + 1) ≤ 64
    → before ++ lines_text (flat_map (contest_lines e ballots) (range_with_len (place + 1) (n - place))) ≡ whole
    → apart ≡ before ++ (contest_line (place + 1) (get_or t.under place 0) (get_or t.over place 0) ++ 10 ∷ [])
    → now ≡ apart ++ lines_text (map (λ c. choice_line (place + 1) c (get_or (get_or t.choices place []) (c - 1) 0))
    (range_with_len 1 (choices_of e (place + 1))))
    → now ++ lines_text (flat_map (contest_lines e ballots) (range_with_len (place + 1 + 1) (n - (place + 1)))) ≡ whole
contest_put e ballots t place n before apart now whole is known within few so_far put_apart put =
    let k = place + 1 in
    let others = flat_map (contest_lines e ballots) (range_with_len (k + 1) (n - k)) in
    let choices = map (λ c. choice_line k c (votes e ballots k c)) (range_with_len 1 (choices_of e k)) in
    let left : before ++ lines_text (contest_lines e ballots k ++ others) ≡ whole =
    ap (λ ks. before ++ lines_text (flat_map (contest_lines e ballots) ks)) (sym (range_next place n within))
    ∙ so_far in
    let head : apart ≡ before ++ (contest_line k (undervotes e ballots k) (overvotes e ballots k) ++ 10 ∷ []) =
    put_apart ∙ ap (λ under. before ++ (contest_line k under (get_or t.over place 0) ++ 10 ∷ [])) (is.under place known)
    ∙ ap (λ over. before ++ (contest_line k (undervotes e ballots k) over ++ 10 ∷ [])) (is.over place known) in
    lines_put choices others apart now whole
    (line_put (contest_line k (undervotes e ballots k) (overvotes e ballots k))
    (choices ++ others) before apart whole left head)
    (put ∙ ap (λ lines. apart ++ lines_text lines) (choice_lines e ballots t place is known few))
