-- The ballots of the generated script: what they mark.
use Rattle.std.proofs.Common.{◌≡◌, ◌≢◌, ℕ, ◌+◌, ◌-◌, ◌%◌, ◌^◌, ◌<◌, ◌≤◌, Bool, true, false, cond, eqb, List, [], ◌∷◌, ◌++◌, length, map, zero, suc, append_assoc, Some, refl, sym, ap, ◌∙◌, arith, mod-lt}
use Rattle.store_spec.proofs.Common.{All-cons, Election, IsElection, IsGroup, MARK_SETS, choices_in, choices_of, codes, decimal, eq-eqb, group_text, is_on_style, join_with_byte, line_of_ballot, mark_set, most_choices, ne_eqb, range_with_len, slash, space}
use Rattle.std.specs.List.{slice_get}
use Rattle.std.proofs.lemmas.List.FromFn.{take-map-range_with_len}
use Rattle.ballot_record.proofs.MarkSets.{choices_in-mark_set, mark_set-cons}
use Rattle.ballot_record.specs.Contest.{contest_of}
use Rattle.ballot_record.specs.declared.contest.Contest.{Contest}
use Rattle.script_lines.specs.Generated.{cast_line, generated_ballot, generated_number, marks_at, style_at}
use Rattle.script_lines.specs.Parts.{generated_group}
use Rattle.ballot_record.proofs.Versions.{contests_fit}

-- ---- the marks of one contest

no_choice : (e : Election) → choices_in e 0 ≡ []
no_choice e = choices_in-mark_set e [] (record { within = λ k d lt. absurd (omega arith); ascending = λ i within. absurd (omega arith) })

one_choice : (e : Election) (c : ℕ) → c < most_choices e → choices_in e (2 ^ c) ≡ (1 + c) ∷ []
one_choice e c few =
    let set : mark_set ((1 + c) ∷ []) ≡ 2 ^ c = mark_set-cons (1 + c) [] ∙ let same : 1 + c - 1 ≡ c = omega arith in ap (λ n. 2 ^ n + 0) same ∙ omega arith in
    let group : IsGroup e ((1 + c) ∷ []) = record {
      within = All-cons (λ n. (1 ≤ n) × (n ≤ most_choices e)) (1 + c) [] (omega arith, omega arith) (λ k d lt. absurd (omega arith));
      ascending = λ i within. absurd (omega arith);
    } in
    ap (choices_in e) (sym set) ∙ choices_in-mark_set e ((1 + c) ∷ []) group

-- every seventh ballot marks nothing, and no ballot marks where the contest is not on its style
pub unmarked : (e : Election) (i k : ℕ) → i % 7 ≡ 0 → choices_in e (marks_at e i k) ≡ []
unmarked e i k seventh =
    let none : (b : Bool) → cond b (cond (eqb (i % 7) 0) 0 (2 ^ ((i + k) % choices_of e k))) 0 ≡ 0 = elim [
      | true ↦ rw (eq-eqb (i % 7) 0 seventh) refl
      | false ↦ refl
    ] in
    ap (choices_in e) (none (is_on_style e (style_at e i) k)) ∙ no_choice e

pub off_style : (e : Election) (i k : ℕ) → is_on_style e (style_at e i) k ≡ false → choices_in e (marks_at e i k) ≡ []
off_style e i k off = ap (λ (b : Bool). choices_in e (cond b (cond (eqb (i % 7) 0) 0 (2 ^ ((i + k) % choices_of e k))) 0)) off ∙ no_choice e

-- how many choices a contest offers
pub choices_offered : (e : Election) (k : ℕ) (contest : Contest) → 1 ≤ k → slice_get e.contests (k - 1) ≡ Some (contest_of contest) → choices_of e k ≡ contest.choices
choices_offered e k contest some found = rw (ne_eqb k 0 (λ zero. omega arith), found) refl

-- any other marks one choice
pub marked : (e : Election) (i k choices : ℕ) → i % 7 ≢ 0 → is_on_style e (style_at e i) k ≡ true → choices_of e k ≡ choices → 1 ≤ choices → choices ≤ most_choices e
    → choices_in e (marks_at e i k) ≡ (1 + (i + k) % choices) ∷ []
marked e i k choices other on offered some few =
    ap (λ (b : Bool). choices_in e (cond b (cond (eqb (i % 7) 0) 0 (2 ^ ((i + k) % choices_of e k))) 0)) on
    ∙ ap (λ (b : Bool). choices_in e (cond b 0 (2 ^ ((i + k) % choices_of e k)))) (ne_eqb (i % 7) 0 other)
    ∙ ap (λ n. choices_in e (2 ^ ((i + k) % n))) offered
    ∙ one_choice e ((i + k) % choices) (omega (arith, mod-lt (i + k) some))

-- ---- the groups of one ballot

-- the groups of so many contests from one on
abbrev pub groups_from : Election → ℕ → ℕ → ℕ → List ℕ
groups_from e i k n = join_with_byte slash (map (generated_group e i) (range_with_len k n))

-- the group of the contest before those whose groups are put
pub group_before : (e : Election) (i k n more : ℕ) (behind start apart now : List ℕ) → 1 ≤ n → more ≡ n + 1 → start ≡ groups_from e i (k + 1) n ++ behind → apart ≡ slash ∷ start → now ≡ generated_group e i k ++ apart
    → now ≡ groups_from e i k more ++ behind
group_before e i k zero more behind start apart now some one so_far put_slash put = absurd (omega arith)
group_before e i k (suc m) more behind start apart now some one so_far put_slash put =
    let two : more ≡ suc (suc m) = omega arith in
    put ∙ ap (λ text. generated_group e i k ++ text) (put_slash ∙ ap (λ text. slash ∷ text) so_far)
    ∙ sym (append_assoc (generated_group e i k) (slash ∷ groups_from e i (k + 1) (suc m)) behind)
    ∙ ap (λ n. groups_from e i k n ++ behind) (sym two)

mapped : (e : Election) (i : ℕ) (ks : List ℕ) → map group_text (map (choices_in e) (map (marks_at e i) ks)) ≡ map (generated_group e i) ks
mapped e i [] = refl
mapped e i (k ∷ ks) = ap (λ rest. generated_group e i k ∷ rest) (mapped e i ks)

-- the line of a ballot has a group for each contest
pub groups_of_ballot : (e : Election) (seed i : ℕ) → IsElection e → map group_text (line_of_ballot e (generated_ballot e seed i)).groups ≡ map (generated_group e i) (range_with_len 1 (length e.contests))
groups_of_ballot e seed i election =
    ap (λ sets. map group_text (map (choices_in e) sets)) (take-map-range_with_len (marks_at e i) 1 MARK_SETS (length e.contests) (contests_fit e election))
    ∙ mapped e i (range_with_len 1 (length e.contests))

-- the parts of a line that casts, each before what was put before it
pub cast_put : (e : Election) (seed tabs i : ℕ) (behind groups style number tab now : List ℕ) → IsElection e
    → groups ≡ groups_from e i 1 (length e.contests) ++ behind → style ≡ decimal (style_at e i) ++ space ∷ groups → number ≡ decimal (generated_number seed i) ++ space ∷ style
    → tab ≡ decimal (1 + i % tabs) ++ space ∷ number → now ≡ codes "cast " ++ tab
    → now ≡ cast_line e seed tabs i ++ behind
cast_put e seed tabs i behind groups style number tab now election is_groups is_style is_number is_tab is_now =
    let same : groups_from e i 1 (length e.contests) ≡ join_with_byte slash (map group_text (line_of_ballot e (generated_ballot e seed i)).groups) =
    ap (join_with_byte slash) (sym (groups_of_ballot e seed i election)) in
    rw (is_now, is_tab, is_number, is_style, is_groups, same) (simp append_assoc refl)
