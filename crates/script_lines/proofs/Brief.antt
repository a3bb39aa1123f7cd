-- The lines of the generated script are no longer than 200 bytes: a ballot marks one choice of a contest at most.
use Rattle.std.proofs.Common.{◌≡◌, ℕ, zero, suc, ◌+◌, ◌*◌, ◌/◌, ◌%◌, ◌^◌, ◌<◌, ◌≤◌, Bool, true, false, inl, inr, List, [], ◌∷◌, ◌++◌, length, map, refl, sym, subst, arith, length-append, mod-lt}
use Rattle.store_spec.proofs.Common.{AllByRecursion, Casting, Election, IsElection, IsTab, Withdrawing, Work, cases_eq, choices_of, codes, decimal, group_text, is_on_style, join_with_byte, length-decimal-le, line_of_ballot, open_text, range_with_len, record_line, slash, work_text}
use Rattle.ballot_record.proofs.ValidMarks.{choices_fit}
use Rattle.ballot_record.proofs.Versions.{contests_fit, few_choices}
use Rattle.script_lines.proofs.Ballots.{groups_from, groups_of_ballot, marked, off_style, unmarked}
use Rattle.script_lines.proofs.GeneratedBallots.{some_choice}
use Rattle.script_lines.proofs.Meanings.{item_length, work_length}
use Rattle.script_lines.specs.Generated.{ballot_count, cast_line, generated, generated_ballot, generated_number, style_at, withdraw_line}
use Rattle.script_lines.specs.Parts.{generated_group}

abbrev pub IsBrief : List ℕ → Type 0
IsBrief line = length line ≤ 200

-- ---- a ballot

group_brief : (e : Election) (i k : ℕ) → IsElection e → 1 ≤ k → length (generated_group e i k) ≤ 2
group_brief e i k election first =
    let dash : length (group_text []) ≤ 2 = omega arith in
    let Brief : List ℕ → Type 0 = λ choices. length (group_text choices) ≤ 2 in
    let styles : i % length e.styles < length e.styles = mod-lt i election.some_style in
    let by_style : (on : Bool) → is_on_style e (style_at e i) k ≡ on → length (generated_group e i k) ≤ 2 = elim [
      | false ↦ λ off. subst Brief (sym (off_style e i k off)) dash
      | true ↦ λ on. elim (cases_eq (i % 7) 0) [
        | inl seventh ↦ subst Brief (sym (unmarked e i k seventh)) dash
        | inr other ↦
            let some = some_choice e (style_at e i) k election (omega arith) (omega arith) first on in
            let few = choices_fit e k election in
            let choice : (i + k) % choices_of e k < choices_of e k = mod-lt (i + k) some in
            let digits = length-decimal-le 2 (1 + (i + k) % choices_of e k) (omega arith) (omega (arith, choice, few, few_choices e)) (omega (arith, choice, few, few_choices e)) in
            subst Brief (sym (marked e i k (choices_of e k) other on refl some few)) digits
      ]
    ] in
    by_style (is_on_style e (style_at e i) k) refl

groups_brief : (e : Election) (i k n : ℕ) → IsElection e → 1 ≤ k → length (groups_from e i k n) ≤ 3 * n
groups_brief e i k zero election first = omega arith
groups_brief e i k (suc zero) election first = omega (arith, group_brief e i k election first)
groups_brief e i k (suc (suc n)) election first =
    omega (arith, group_brief e i k election first, groups_brief e i (k + 1) (suc n) election (omega arith), length-append (generated_group e i k) (slash ∷ groups_from e i (k + 1) (suc n)))

pub cast_brief : (e : Election) (seed tabs i : ℕ) → IsElection e → IsTab (1 + i % tabs) → IsBrief (cast_line e seed tabs i)
cast_brief e seed tabs i election is_tab =
    let n = length e.contests in
    let b = generated_ballot e seed i in
    let marks = join_with_byte slash (map group_text (line_of_ballot e b).groups) in
    let groups : length marks ≤ 3 * n = subst (λ texts. length (join_with_byte slash texts) ≤ 3 * n) (sym (groups_of_ballot e seed i election)) (groups_brief e i 1 n election (omega arith)) in
    let short : generated_number seed i < 2 ^ 64 = mod-lt ((seed + i) * 0xD1342543DE82EF95) (omega arith) in
    let styles : i % length e.styles < length e.styles = mod-lt i election.some_style in
    let few : style_at e i < 1000 = omega (arith, styles, election.few_styles) in
    let number = length-decimal-le 20 (generated_number seed i) (omega arith) (omega (arith, short)) short in
    let style = length-decimal-le 3 (style_at e i) (omega arith) few (omega (arith, few)) in
    let front = length-append (decimal (generated_number seed i)) (32 ∷ decimal (style_at e i)) in
    let whole = length-append (decimal (generated_number seed i) ++ (32 ∷ decimal (style_at e i))) (32 ∷ marks) in
    omega (arith, item_length Casting (1 + i % tabs) (record_line e b) is_tab, groups, contests_fit e election, number, style, front, whole)

pub withdraw_brief : (seed tabs j : ℕ) → IsTab (1 + j % tabs) → IsBrief (withdraw_line seed tabs j)
withdraw_brief seed tabs j is_tab =
    let short : generated_number seed (10 * j) < 2 ^ 64 = mod-lt ((seed + 10 * j) * 0xD1342543DE82EF95) (omega arith) in
    omega (arith, item_length Withdrawing (1 + j % tabs) (decimal (generated_number seed (10 * j))) is_tab, length-decimal-le 20 (generated_number seed (10 * j)) (omega arith) (omega (arith, short)) short)

-- ---- the script

opens_briefly : (w : Work) (tabs : ℕ) → IsTab tabs → IsBrief (open_text w tabs)
opens_briefly w tabs is =
    omega (arith, work_length w, length-decimal-le 2 tabs (omega arith) (omega (arith, is.1)) (omega (arith, is.1)), length-append (work_text w) (32 ∷ decimal tabs))

each_in_range : (line : ℕ → List ℕ) (a n : ℕ) → ((i : ℕ) → IsBrief (line i)) → AllByRecursion IsBrief (map line (range_with_len a n))
each_in_range line a zero each = tt
each_in_range line a (suc n) each = (each a, each_in_range line (a + 1) n each)

with_those : (lines more : List (List ℕ)) → AllByRecursion IsBrief lines → AllByRecursion IsBrief more → AllByRecursion IsBrief (lines ++ more)
with_those [] more first second = second
with_those (line ∷ lines) more first second = (first.0, with_those lines more first.1 second)

pub all_brief : (e : Election) (seed count tabs : ℕ) → IsElection e → IsTab tabs → AllByRecursion IsBrief (generated e seed count tabs)
all_brief e seed count tabs election is =
    let n = ballot_count e count in
    let a_tab : (i : ℕ) → IsTab (1 + i % tabs) = λ i. (omega arith, omega (arith, mod-lt i is.0, is.1)) in
    let cast_lines = open_text Casting tabs ∷ map (cast_line e seed tabs) (range_with_len 1 n) in
    let withdraw_lines = codes "close" ∷ open_text Withdrawing tabs ∷ map (withdraw_line seed tabs) (range_with_len 1 (n / 10)) in
    let closing = codes "close" ∷ codes "checkpoint" ∷ codes "tally" ∷ [] in
    let close : IsBrief (codes "close") = omega arith in
    let casts : AllByRecursion IsBrief cast_lines =
    (opens_briefly Casting tabs is, each_in_range (cast_line e seed tabs) 1 n (λ i. cast_brief e seed tabs i election (a_tab i))) in
    let withdraws : AllByRecursion IsBrief withdraw_lines =
    (close, (opens_briefly Withdrawing tabs is, each_in_range (withdraw_line seed tabs) 1 (n / 10) (λ j. withdraw_brief seed tabs j (a_tab j)))) in
    with_those (cast_lines ++ withdraw_lines) closing (with_those cast_lines withdraw_lines casts withdraws)
    (close, (omega arith, (omega arith, tt)))
