-- Replies that are not in the summary, and those that are.
use Rattle.std.proofs.Common.{◌≡◌, ℕ, ◌+◌, true, false, List, [], ◌∷◌, ◌++◌, length, map, codes, refl, sym, ap, ◌∙◌, append_assoc}
use Rattle.store_spec.proofs.Common.{Absent, Accepted, Ballot, CastReply, Casting, Conflict, Duplicate, Election, Finding, Full, WithdrawReply, Withdrawing, Work, all_reply_lines, cast_text, choice_line, choices_of, closing, counted, decimal, flat_map, is_in_summary, line_of, opened, overvotes, phase_text, range_with_len, reply_line, reply_lines, summary_of, tally_text, undervotes, votes, withdraw_text}
use Rattle.outside_io.proofs.EndedLines.{IsWhole}
use Rattle.store_spec.specs.Report.{contest_line, contest_lines, tally_lines}
use Rattle.store_spec.specs.WithdrawPhase.WithdrawReply.{Gone, Withdrawn}
use Rattle.session_laws.proofs.Digits.{AreDigits, decimal_digits}
use Rattle.session_laws.proofs.Summaries.{AreKept, IsOneLine, all_kept, decimal_one_line, digit_first, ended_whole, one_line-append, summary-append, summary_kept, summary_left_out, whole-append}

-- a whole text of which nothing is in the summary
pub record IsUnheard (text : List ℕ) : Type 0 where
  pub whole : IsWhole text
  pub summary : summary_of text ≡ []

-- two of them are one
unheard-append : (a b : List ℕ) → IsUnheard a → IsUnheard b → IsUnheard (a ++ b)
unheard-append a b first second = record {
  whole = whole-append a b first.whole second.whole;
  summary = summary-append a b first.whole ∙ ap (λ text. text ++ summary_of b) first.summary ∙ second.summary;
}

-- behind such a text only the rest is in the summary
pub behind_unheard : (a b : List ℕ) → IsUnheard a → summary_of (a ++ b) ≡ summary_of b
behind_unheard a b unheard = summary-append a b unheard.whole ∙ ap (λ text. text ++ summary_of b) unheard.summary

-- the opening of a phase
pub opening_unheard : (work : Work) (tabs : ℕ) → IsUnheard (counted (phase_text (opened work tabs)) tabs)
opening_unheard work tabs = record { whole = ended_whole _ (phase_text (opened work tabs) ++ 32 ∷ decimal tabs, refl); summary = none work }
  where
    none : (work : Work) → summary_of (counted (phase_text (opened work tabs)) tabs) ≡ []
    none Casting = summary_left_out (codes "casting" ++ 32 ∷ decimal tabs) (decimal_one_line tabs) refl
    none Withdrawing = summary_left_out (codes "withdrawing" ++ 32 ∷ decimal tabs) (decimal_one_line tabs) refl
    none Finding = summary_left_out (codes "finding" ++ 32 ∷ decimal tabs) (decimal_one_line tabs) refl

-- ---- the replies of lists

-- a decimal first keeps a line out of the summary
decimal_first : (n : ℕ) (rest : List ℕ) → is_in_summary (decimal n ++ rest) ≡ false
decimal_first n rest = first (decimal n) (decimal_digits n)
  where
    first : (bytes : List ℕ) → AreDigits bytes → is_in_summary (bytes ++ rest) ≡ false
    first [] are = absurd are
    first (byte ∷ bytes) are = digit_first byte (bytes ++ rest) are.0

-- the line of a reply
reply_unheard : (list at : ℕ) (word : List ℕ) → IsOneLine word → IsUnheard (reply_line list at word)
reply_unheard list at word one =
    let behind = decimal at ++ 32 ∷ word in
    let line = decimal list ++ 32 ∷ behind in
    let is : reply_line list at word ≡ line_of line =
    ap (λ text. decimal list ++ 32 ∷ text) (sym (append_assoc (decimal at) (32 ∷ word) (10 ∷ []))) ∙ sym (append_assoc (decimal list) (32 ∷ behind) (10 ∷ [])) in
    let single : IsOneLine line = one_line-append (decimal list) (32 ∷ behind) (decimal_one_line list) (one_line-append (decimal at) (32 ∷ word) (decimal_one_line at) one) in
    record { whole = ended_whole (reply_line list at word) (line, is); summary = ap summary_of is ∙ summary_left_out line single (decimal_first list (32 ∷ behind)) }

module _ {A : Type 0} (word : A → List ℕ) (one : (a : A) → IsOneLine (word a)) where
  -- those of a list
  list_unheard : (list at : ℕ) (answers : List A) → IsUnheard (reply_lines list at (map word answers))
  list_unheard list at [] = record { whole = refl; summary = refl }
  list_unheard list at (a ∷ answers) =
      unheard-append (reply_line list at (word a)) (reply_lines list (at + 1) (map word answers)) (reply_unheard list at (word a) (one a)) (list_unheard list (at + 1) answers)

  -- those of all lists
  lists_unheard : (list : ℕ) (lists : List (List A)) → IsUnheard (all_reply_lines list (map (map word) lists))
  lists_unheard list [] = record { whole = refl; summary = refl }
  lists_unheard list (answers ∷ lists) =
      unheard-append (reply_lines list 1 (map word answers)) (all_reply_lines (list + 1) (map (map word) lists)) (list_unheard list 1 answers) (lists_unheard (list + 1) lists)

  -- so of a close one line is in the summary
  pub close_summary : (lists : List (List A)) (after : List Ballot) → summary_of (closing (map (map word) lists) after).reply ≡ counted (codes "closed") (length after)
  close_summary lists after =
      behind_unheard (all_reply_lines 1 (map (map word) lists)) (counted (codes "closed") (length after)) (lists_unheard 1 lists)
      ∙ summary_kept (codes "closed" ++ 32 ∷ decimal (length after)) (decimal_one_line (length after)) refl

-- the words of replies are one line
pub cast_one_line : (reply : CastReply) → IsOneLine (cast_text reply)
cast_one_line Accepted = refl
cast_one_line Duplicate = refl
cast_one_line Conflict = refl
cast_one_line Full = refl

pub withdraw_one_line : (reply : WithdrawReply) → IsOneLine (withdraw_text reply)
withdraw_one_line Withdrawn = refl
withdraw_one_line Gone = refl
withdraw_one_line Absent = refl

-- ---- what is in the summary

-- a checkpoint
pub checkpoint_summary : (n : ℕ) → summary_of (counted (codes "checkpoint") n) ≡ counted (codes "checkpoint") n
checkpoint_summary n = summary_kept (codes "checkpoint" ++ 32 ∷ decimal n) (decimal_one_line n) refl

-- lines of two lists
kept-append : (xs ys : List (List ℕ)) → AreKept xs → AreKept ys → AreKept (xs ++ ys)
kept-append [] ys first second = second
kept-append (x ∷ xs) ys first second = (first.0, kept-append xs ys first.1 second)

-- lines, one for each number
kept_each : (f : ℕ → List ℕ) → ((n : ℕ) → IsOneLine (f n) × (is_in_summary (f n) ≡ true)) → (ns : List ℕ) → AreKept (map f ns)
kept_each f each [] = tt
kept_each f each (n ∷ ns) = (each n, kept_each f each ns)

-- lines, some for each number
kept_lists : (f : ℕ → List (List ℕ)) → ((n : ℕ) → AreKept (f n)) → (ns : List ℕ) → AreKept (flat_map f ns)
kept_lists f each [] = tt
kept_lists f each (n ∷ ns) = kept-append (f n) (flat_map f ns) (each n) (kept_lists f each ns)

-- the line of a contest
contest_one_line : (k under over : ℕ) → IsOneLine (contest_line k under over)
contest_one_line k under over =
    let first = one_line-append (codes "contest ") (decimal k) refl (decimal_one_line k) in
    let second = one_line-append (codes "contest " ++ decimal k) (codes " under ") first refl in
    let third = one_line-append (codes "contest " ++ decimal k ++ codes " under ") (decimal under) second (decimal_one_line under) in
    let fourth = one_line-append (codes "contest " ++ decimal k ++ codes " under " ++ decimal under) (codes " over ") third refl in
    one_line-append (codes "contest " ++ decimal k ++ codes " under " ++ decimal under ++ codes " over ") (decimal over) fourth (decimal_one_line over)

-- the line of a choice
choice_one_line : (k c count : ℕ) → IsOneLine (choice_line k c count)
choice_one_line k c count =
    let first = one_line-append (codes "choice ") (decimal k) refl (decimal_one_line k) in
    let second = one_line-append (codes "choice " ++ decimal k) (32 ∷ decimal c) first (decimal_one_line c) in
    one_line-append (codes "choice " ++ decimal k ++ 32 ∷ decimal c) (32 ∷ decimal count) second (decimal_one_line count)

-- a tally
pub tally_summary : (e : Election) (set : List Ballot) → summary_of (tally_text e set) ≡ tally_text e set
tally_summary e set =
    all_kept (tally_lines e set)
    ((decimal_one_line (length set), refl), kept_lists (contest_lines e set) of_contest (range_with_len 1 (length e.contests)))
  where
    of_contest : (k : ℕ) → AreKept (contest_lines e set k)
    of_contest k = (
      (contest_one_line k (undervotes e set k) (overvotes e set k), refl),
      kept_each (λ c. choice_line k c (votes e set k c)) (λ c. (choice_one_line k c (votes e set k c), refl)) (range_with_len 1 (choices_of e k)),
    )
