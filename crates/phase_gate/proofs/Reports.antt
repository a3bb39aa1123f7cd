-- The summaries of a tally and of an export.
use Rattle.std.proofs.Common.{◌≡◌, ℕ, true, List, [], ◌∷◌, ◌++◌, map, take, length, codes, refl, sym, append_assoc, subst}
use Rattle.store_spec.proofs.Common.{Ballot, Election, choice_line, choices_in, choices_of, contest_line, contest_lines, count_line, decimal, export_text, flat_map, flat_map-append, group_text, is_in_summary, join_with_byte, lines_text, overvotes, range_with_len, record_line, tally_text, undervotes, votes}
use Rattle.phase_gate.proofs.LineParts.{decimal_no_end, decimal_numeral, no_end_both, no_end_joined}
use Rattle.phase_gate.proofs.Summaries.{Sums, counted_no_end, line_in, line_out, numeral_out, sums_both}
use Rattle.phase_gate.specs.Writing.{HasNoEnd}

-- the lines are all in the summary
abbrev pub AllIn : List (List ℕ) → Type 0
AllIn lines = Sums (lines_text lines) (lines_text lines)

one_in : (line : List ℕ) (lines : List (List ℕ)) → HasNoEnd line → is_in_summary line ≡ true → AllIn lines
    → AllIn (line ∷ lines)
one_in line lines none is all =
    sums_both (line ++ 10 ∷ []) (lines_text lines) (line ++ 10 ∷ []) (lines_text lines) (line_in line none is) all

each_in : (f : ℕ → List ℕ) → ((x : ℕ) → HasNoEnd (f x) × (is_in_summary (f x) ≡ true)) → (xs : List ℕ)
    → AllIn (map f xs)
each_in f is [] = λ rest. refl
each_in f is (x ∷ xs) = one_in (f x) (map f xs) (is x).0 (is x).1 (each_in f is xs)

all_in : (f : ℕ → List (List ℕ)) → ((x : ℕ) → AllIn (f x)) → (xs : List ℕ) → AllIn (flat_map f xs)
all_in f is [] = λ rest. refl
all_in f is (x ∷ xs) =
    let both = sums_both (lines_text (f x)) (lines_text (flat_map f xs)) (lines_text (f x))
    (lines_text (flat_map f xs)) (is x) (all_in f is xs) in
    subst (λ text. Sums text text) (sym (flat_map-append (λ line. line ++ 10 ∷ []) (f x) (flat_map f xs))) both

choice_in : (k c count : ℕ) → HasNoEnd (choice_line k c count) × (is_in_summary (choice_line k c count) ≡ true)
choice_in k c count = (
  no_end_both (codes "choice " ++ decimal k ++ 32 ∷ decimal c) (32 ∷ decimal count)
      (no_end_both (codes "choice " ++ decimal k) (32 ∷ decimal c)
      (no_end_both (codes "choice ") (decimal k) refl (decimal_no_end k)) (decimal_no_end c))
      (decimal_no_end count),
  refl,
)

contest_in : (k under over : ℕ) → HasNoEnd (contest_line k under over)
contest_in k under over =
    no_end_both (codes "contest " ++ decimal k ++ codes " under " ++ decimal under ++ codes " over ") (decimal over)
    (no_end_both (codes "contest " ++ decimal k ++ codes " under " ++ decimal under) (codes " over ")
    (no_end_both (codes "contest " ++ decimal k ++ codes " under ") (decimal under)
    (no_end_both (codes "contest " ++ decimal k) (codes " under ")
    (no_end_both (codes "contest ") (decimal k) refl (decimal_no_end k)) refl)
    (decimal_no_end under)) refl) (decimal_no_end over)

-- a tally is its own summary
pub tally_sums : (e : Election) (set : List Ballot) → Sums (tally_text e set) (tally_text e set)
tally_sums e set =
    one_in (count_line (codes "tally") (length set)) (flat_map (contest_lines e set)
    (range_with_len 1 (length e.contests)))
    (counted_no_end (codes "tally") (length set) refl) refl
    (all_in (contest_lines e set) (λ k. one_in (contest_line k (undervotes e set k) (overvotes e set k)) _
    (contest_in k (undervotes e set k) (overvotes e set k)) refl
    (each_in (λ c. choice_line k c (votes e set k c)) (λ c. choice_in k c (votes e set k c))
    (range_with_len 1 (choices_of e k)))) (range_with_len 1 (length e.contests)))

group_no_end : (choices : List ℕ) → HasNoEnd (group_text choices)
group_no_end [] = refl
group_no_end (choice ∷ choices) = no_end_joined 44 refl decimal decimal_no_end (choice ∷ choices)

record_out : (e : Election) (b : Ballot) → Sums (record_line e b ++ 10 ∷ []) []
record_out e b =
    let marks = join_with_byte 47 (map group_text (map (choices_in e) (take (length e.contests) b.marks))) in
    let rest = (32 ∷ decimal b.style) ++ 32 ∷ marks in
    subst (λ text. Sums (text ++ 10 ∷ []) []) (sym (append_assoc (decimal b.number) (32 ∷ decimal b.style)
    (32 ∷ marks)))
    (numeral_out (decimal b.number) rest (decimal_numeral b.number)
    (no_end_both (32 ∷ decimal b.style) (32 ∷ marks) (decimal_no_end b.style)
    (no_end_joined 47 refl group_text group_no_end (map (choices_in e) (take (length e.contests) b.marks)))))

records_out : (e : Election) (set : List Ballot) → Sums (lines_text (map (record_line e) set)) []
records_out e [] = λ rest. refl
records_out e (b ∷ set) = sums_both (record_line e b ++ 10 ∷ []) (lines_text (map (record_line e) set)) [] []
    (record_out e b) (records_out e set)

-- no line of an export is in the summary
pub export_sums : (e : Election) (set : List Ballot) → Sums (export_text e set) []
export_sums e set =
    sums_both (count_line (codes "export") (length set) ++ 10 ∷ []) (lines_text (map (record_line e) set)) [] []
    (line_out (count_line (codes "export") (length set)) (counted_no_end (codes "export") (length set) refl) refl)
    (records_out e set)
