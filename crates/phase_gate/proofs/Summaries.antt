-- The summary of what a session replies, text by text.
use Rattle.std.proofs.Common.{◌≡◌, ◌==◌, ℕ, ◌+◌, ◌<◌, true, false, List, [], ◌∷◌, ◌++◌, map, All, cond, codes, refl, sym, ap, ◌∙◌, arith, append_assoc, append-nil, subst}
use Rattle.store_spec.proofs.Common.{All-head, All-tail, Casting, Finding, Withdrawing, Work, all_reply_lines, begun_with, counted, decimal, filter, is_in_summary, lines_of, lines_text, opened, phase_text, refusal, reply_line, reply_lines, summary_of}
use Rattle.phase_gate.proofs.LineParts.{IsNumeral, decimal_no_end, decimal_numeral, no_end_both, no_end_parts, numeral_no_end}
use Rattle.phase_gate.specs.Writing.{HasNoEnd}

-- whole lines, and their summary
abbrev pub Sums : List ℕ → List ℕ → Type 0
Sums text told = (rest : List ℕ) → summary_of (text ++ rest) ≡ told ++ summary_of rest

pub sums : (text told : List ℕ) → Sums text told → summary_of text ≡ told
sums text told is = ap summary_of (sym (append-nil text)) ∙ is [] ∙ append-nil told

pub sums_both : (a b x y : List ℕ) → Sums a x → Sums b y → Sums (a ++ b) (x ++ y)
sums_both a b x y one two = λ rest.
    ap summary_of (append_assoc a b rest) ∙ one (b ++ rest) ∙ ap (λ t. x ++ t) (two rest) ∙ sym
    (append_assoc x y (summary_of rest))

cut : (line rest : List ℕ) → HasNoEnd line → lines_of (line ++ 10 ∷ rest) ≡ line ∷ lines_of rest
cut [] rest none = refl
cut (byte ∷ line) rest none =
    let parts = no_end_parts byte line none in
    ap (λ test. cond test ([] ∷ lines_of (line ++ 10 ∷ rest)) (begun_with byte (lines_of (line ++ 10 ∷ rest)))) parts.0
    ∙ ap (begun_with byte) (cut line rest parts.1)

-- a line that is in the summary
pub line_in : (line : List ℕ) → HasNoEnd line → is_in_summary line ≡ true → Sums (line ++ 10 ∷ []) (line ++ 10 ∷ [])
line_in line none is = λ rest.
    ap (λ text. lines_text (filter is_in_summary text))
    (ap lines_of (append_assoc line (10 ∷ []) rest) ∙ cut line rest none)
    ∙ ap (λ test. lines_text (cond test (line ∷ filter is_in_summary (lines_of rest))
    (filter is_in_summary (lines_of rest)))) is

-- one that is not
pub line_out : (line : List ℕ) → HasNoEnd line → is_in_summary line ≡ false → Sums (line ++ 10 ∷ []) []
line_out line none is = λ rest.
    ap (λ text. lines_text (filter is_in_summary text))
    (ap lines_of (append_assoc line (10 ∷ []) rest) ∙ cut line rest none)
    ∙ ap (λ test. lines_text (cond test (line ∷ filter is_in_summary (lines_of rest))
    (filter is_in_summary (lines_of rest)))) is

-- a line that begins with a digit is not in the summary
digit_out : (byte : ℕ) (rest : List ℕ) → byte < 58 → is_in_summary (byte ∷ rest) ≡ false
digit_out byte rest small =
    let c : (99 == byte) ≡ false = grind arith in
    let t : (116 == byte) ≡ false = grind arith in
    rw (c, t) refl

pub numeral_out : (text more : List ℕ) → IsNumeral text → HasNoEnd more → Sums ((text ++ more) ++ 10 ∷ []) []
numeral_out text more n none =
    line_out (text ++ more) (no_end_both text more (numeral_no_end text n) none)
    (ap (λ t. is_in_summary (t ++ more)) n.is ∙ digit_out (48 + n.digit) (n.rest ++ more) (omega (arith, n.small)))

-- ---- the replies

-- a word and a number
pub counted_no_end : (word : List ℕ) (n : ℕ) → HasNoEnd word → HasNoEnd (word ++ 32 ∷ decimal n)
counted_no_end word n none = no_end_both word (32 ∷ decimal n) none (decimal_no_end n)

pub closed_sums : (n : ℕ) → Sums (counted (codes "closed") n) (counted (codes "closed") n)
closed_sums n = line_in (codes "closed" ++ 32 ∷ decimal n) (counted_no_end (codes "closed") n refl) refl

pub checkpoint_sums : (n : ℕ) → Sums (counted (codes "checkpoint") n) (counted (codes "checkpoint") n)
checkpoint_sums n = line_in (codes "checkpoint" ++ 32 ∷ decimal n) (counted_no_end (codes "checkpoint") n refl) refl

pub opening_sums : (work : Work) (tabs : ℕ) → Sums (counted (phase_text (opened work tabs)) tabs) []
opening_sums Casting tabs =
    line_out (codes "casting" ++ 32 ∷ decimal tabs) (counted_no_end (codes "casting") tabs refl) refl
opening_sums Withdrawing tabs =
    line_out (codes "withdrawing" ++ 32 ∷ decimal tabs) (counted_no_end (codes "withdrawing") tabs refl) refl
opening_sums Finding tabs =
    line_out (codes "finding" ++ 32 ∷ decimal tabs) (counted_no_end (codes "finding") tabs refl) refl

pub refusal_sums : (n : ℕ) (why : List ℕ) → HasNoEnd why → Sums (refusal n why) []
refusal_sums n why none =
    line_out (codes "line " ++ decimal n ++ 32 ∷ why)
    (no_end_both (codes "line " ++ decimal n) (32 ∷ why)
    (no_end_both (codes "line ") (decimal n) refl (decimal_no_end n)) none) refl

-- the replies of lists
reply_sums : (list at : ℕ) (word : List ℕ) → HasNoEnd word → Sums (reply_line list at word) []
reply_sums list at word none =
    let more = 32 ∷ (decimal at ++ 32 ∷ word) in
    let is : (decimal list ++ more) ++ 10 ∷ [] ≡ reply_line list at word =
    append_assoc (decimal list) more (10 ∷ []) ∙ ap (λ t. decimal list ++ 32 ∷ t)
    (append_assoc (decimal at) (32 ∷ word) (10 ∷ [])) in
    subst (λ text. Sums text []) is
    (numeral_out (decimal list) more (decimal_numeral list)
    (no_end_both (decimal at) (32 ∷ word) (decimal_no_end at) none))

module _ {X : Type 0} (word : X → List ℕ) where
  list_sums : (list at : ℕ) (xs : List X) → All (λ x. HasNoEnd (word x)) xs
      → Sums (reply_lines list at (map word xs)) []
  list_sums list at [] all = λ rest. refl
  list_sums list at (x ∷ xs) all =
      sums_both (reply_line list at (word x)) (reply_lines list (at + 1) (map word xs)) [] []
      (reply_sums list at (word x) (All-head (λ x. HasNoEnd (word x)) x xs all))
      (list_sums list (at + 1) xs (All-tail (λ x. HasNoEnd (word x)) x xs all))

  pub lists_sums : {V : Type 0} (items : V → List X) (list : ℕ) (lists : List V)
      → All (λ v. All (λ x. HasNoEnd (word x)) (items v)) lists
      → Sums (all_reply_lines list (map (λ v. map word (items v)) lists)) []
  lists_sums items list [] all = λ rest. refl
  lists_sums items list (v ∷ lists) all =
      sums_both (reply_lines list 1 (map word (items v)))
      (all_reply_lines (list + 1) (map (λ v. map word (items v)) lists)) [] []
      (list_sums list 1 (items v) (All-head (λ v. All (λ x. HasNoEnd (word x)) (items v)) v lists all))
      (lists_sums items (list + 1) lists (All-tail (λ v. All (λ x. HasNoEnd (word x)) (items v)) v lists all))

  -- of a close only the count is in the summary
  pub closing_sums : {V : Type 0} (items : V → List X) (lists : List V) (held : ℕ)
      → All (λ v. All (λ x. HasNoEnd (word x)) (items v)) lists
      → Sums (all_reply_lines 1 (map (λ v. map word (items v)) lists) ++ counted (codes "closed") held)
      (counted (codes "closed") held)
  closing_sums items lists held all =
      sums_both (all_reply_lines 1 (map (λ v. map word (items v)) lists)) (counted (codes "closed") held) []
      (counted (codes "closed") held)
      (lists_sums items 1 lists all) (closed_sums held)
