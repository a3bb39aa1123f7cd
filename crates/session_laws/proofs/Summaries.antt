-- The summary of texts that are put one behind the other, and of single lines.
use Rattle.std.proofs.Common.{◌≡◌, ℕ, Bool, true, false, cond, eqb, List, [], ◌∷◌, ◌++◌, ◌||◌, refl, sym, ap, subst, ◌∙◌, arith, append_assoc, append-nil}
use Rattle.store_spec.proofs.Common.{AllByRecursion, begun_with, continued, decimal, filter, filter-append, flat_map-append, is_in_summary, line_end, line_of, lines_of, lines_text, list_any, list_any-append, ne_eqb, summary_of}
use Rattle.outside_io.proofs.EndedLines.{IsWhole, ended_lines-append, lines_of-append}
use Rattle.session_laws.proofs.Digits.{AreDigits, IsDigit, decimal_digits}

-- ---- whole texts

-- two whole texts are one
pub whole-append : (a b : List ℕ) → IsWhole a → IsWhole b → IsWhole (a ++ b)
whole-append a b first second = ended_lines-append a b first ∙ ap (λ lines. lines_of a ++ lines) second ∙ sym (lines_of-append a b first)

-- the summary of two texts, of which the first is whole
pub summary-append : (a b : List ℕ) → IsWhole a → summary_of (a ++ b) ≡ summary_of a ++ summary_of b
summary-append a b whole =
    ap (λ lines. lines_text (filter is_in_summary lines)) (lines_of-append a b whole)
    ∙ ap lines_text (filter-append is_in_summary (lines_of a) (lines_of b))
    ∙ flat_map-append (λ line. line ++ line_end ∷ []) (filter is_in_summary (lines_of a)) (filter is_in_summary (lines_of b))

-- a text ends with a line end
abbrev pub IsEnded : List ℕ → Type 0
IsEnded text = (front : List ℕ) × (text ≡ line_of front)

-- so it does behind others
pub ended-behind : (a b : List ℕ) → IsEnded b → IsEnded (a ++ b)
ended-behind a b (front, is) = (a ++ front, ap (λ b. a ++ b) is ∙ sym (append_assoc a front (line_end ∷ [])))

-- a text with an end has a line
has_line : (front : List ℕ) → lines_of (line_of front) ≡ [] → ⊥
has_line [] none = cc
has_line (byte ∷ front) none = begun (eqb byte line_end) none
  where
    some : (lines : List (List ℕ)) → begun_with byte lines ≡ [] → ⊥
    some [] is = cc
    some (line ∷ lines) is = cc

    begun : (ends : Bool) → cond ends ([] ∷ lines_of (line_of front)) (begun_with byte (lines_of (line_of front))) ≡ [] → ⊥
    begun true is = cc
    begun false is = some (lines_of (line_of front)) is

-- a text with an end is whole
pub ended_whole : (text : List ℕ) → IsEnded text → IsWhole text
ended_whole text (front, is) = subst IsWhole (sym is) (whole front)
  where
    grown : (byte : ℕ) (lines : List (List ℕ)) → (lines ≡ [] → ⊥) → continued byte lines ≡ begun_with byte lines
    grown byte [] some = absurd (some refl)
    grown byte (line ∷ lines) some = refl

    whole : (front : List ℕ) → IsWhole (line_of front)
    whole [] = refl
    whole (byte ∷ front) =
        let lines = lines_of (line_of front) in
        ap (λ ended. cond (eqb byte line_end) ([] ∷ ended) (continued byte ended)) (whole front)
        ∙ ap (cond (eqb byte line_end) ([] ∷ lines)) (grown byte lines (has_line front))

-- ---- lines

-- bytes with no line end among them
abbrev pub IsOneLine : List ℕ → Type 0
IsOneLine bytes = list_any (λ byte. eqb byte line_end) bytes ≡ false

-- two of them are one
pub one_line-append : (a b : List ℕ) → IsOneLine a → IsOneLine b → IsOneLine (a ++ b)
one_line-append a b first second = list_any-append (λ byte. eqb byte line_end) a b ∙ ap (λ t. t || list_any (λ byte. eqb byte line_end) b) first ∙ second

-- digits are one line
digits_one_line : (bytes : List ℕ) → AllByRecursion IsDigit bytes → IsOneLine bytes
digits_one_line [] are = refl
digits_one_line (byte ∷ bytes) are = ap (λ t. t || list_any (λ byte. eqb byte line_end) bytes) (ne_eqb byte line_end (omega (arith, are.0))) ∙ digits_one_line bytes are.1

-- so is a decimal
pub decimal_one_line : (n : ℕ) → IsOneLine (decimal n)
decimal_one_line n = are_one_line (decimal n) (decimal_digits n)
  where
    are_one_line : (bytes : List ℕ) → AreDigits bytes → IsOneLine bytes
    are_one_line [] are = absurd are
    are_one_line (byte ∷ bytes) are = digits_one_line (byte ∷ bytes) are

-- a line with its end is cut off as one
cut_off : (line : List ℕ) → IsOneLine line → lines_of (line_of line) ≡ line ∷ []
cut_off [] one = refl
cut_off (byte ∷ line) one = cut (eqb byte line_end) one (cut_off line)
  where
    cut : (ends : Bool) → (ends || list_any (λ byte. eqb byte line_end) line) ≡ false → (IsOneLine line → lines_of (line_of line) ≡ line ∷ [])
        → cond ends ([] ∷ lines_of (line_of line)) (begun_with byte (lines_of (line_of line))) ≡ (byte ∷ line) ∷ []
    cut true is behind = absurd cc
    cut false is behind = ap (begun_with byte) (behind is)

-- the summary of a line
pub summary_line : (line : List ℕ) → IsOneLine line → summary_of (line_of line) ≡ lines_text (filter is_in_summary (line ∷ []))
summary_line line one = ap (λ lines. lines_text (filter is_in_summary lines)) (cut_off line one)

-- a line that is in the summary
pub summary_kept : (line : List ℕ) → IsOneLine line → is_in_summary line ≡ true → summary_of (line_of line) ≡ line_of line
summary_kept line one kept = summary_line line one ∙ ap (λ t. lines_text (cond t (line ∷ []) [])) kept ∙ append-nil (line_of line)

-- and one that is not
pub summary_left_out : (line : List ℕ) → IsOneLine line → is_in_summary line ≡ false → summary_of (line_of line) ≡ []
summary_left_out line one out = summary_line line one ∙ ap (λ t. lines_text (cond t (line ∷ []) [])) out

-- ---- texts of lines

-- lines of a text of which each is in the summary
abbrev pub AreKept : List (List ℕ) → Type 0
AreKept lines = AllByRecursion (λ line. IsOneLine line × (is_in_summary line ≡ true)) lines

-- a text of such lines is its own summary
pub all_kept : (lines : List (List ℕ)) → AreKept lines → summary_of (lines_text lines) ≡ lines_text lines
all_kept [] are = refl
all_kept (line ∷ lines) are =
    summary-append (line_of line) (lines_text lines) (ended_whole (line_of line) (line, refl))
    ∙ ap (λ text. text ++ summary_of (lines_text lines)) (summary_kept line are.0.0 are.0.1)
    ∙ ap (λ text. line_of line ++ text) (all_kept lines are.1)

-- a line that begins with a digit is not in the summary
pub digit_first : (byte : ℕ) (rest : List ℕ) → IsDigit byte → is_in_summary (byte ∷ rest) ≡ false
digit_first byte rest is = rw (ne_eqb 99 byte (omega (arith, is)), ne_eqb 116 byte (omega (arith, is))) refl
