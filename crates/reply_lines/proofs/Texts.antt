-- Lines that are written one after another.
use Rattle.std.proofs.Common.{◌≡◌, ℕ, zero, suc, ◌+◌, ◌^◌, ◌<◌, ◌≤◌, Some, List, [], ◌∷◌, ◌++◌, length, get_or, drop, take, length-append, refl, sym, ap, ◌∙◌, add-one, arith}
use Rattle.store_spec.proofs.Common.{all_reply_lines, append-nil, append_assoc, decimal, length-take-le, reply_line, reply_lines, slice_get, slice_get-get_or, take_at}
use Rattle.std.proofs.Math.Seq.{drop-cons}
use Rattle.std.proofs.lemmas.Fmt.{IsAscii-decimal}
use Rattle.std.proofs.lemmas.Str.{IsUtf8-append, IsUtf8-from_ascii}
use borrow.Rule.Slice.PartMut.{post_of, put_mid}
use Rattle.std.specs.Str.{IsAscii, IsUtf8}

-- one more piece of what is to be written
pub one_written : (before piece now rest behind whole : List ℕ) → before ++ rest ≡ whole → rest ≡ piece ++ behind → now ≡ before ++ piece → now ++ behind ≡ whole
one_written before piece now rest behind whole so_far next is =
    ap (λ l. l ++ behind) is ∙ append_assoc before piece behind ∙ ap (λ l. before ++ l) (sym next) ∙ so_far

-- nothing is left to be written
pub all_written : (now rest whole : List ℕ) → now ++ rest ≡ whole → rest ≡ [] → now ≡ whole
all_written now rest whole so_far none = sym (append-nil now) ∙ ap (λ l. now ++ l) (sym none) ∙ so_far

pub next_reply : (list : ℕ) (words : List (List ℕ)) (at : ℕ) (word : List ℕ) → at < length words → get_or words at word ≡ word → reply_lines list (at + 1) (drop at words) ≡ reply_line list (at + 1) word ++ reply_lines list (at + 1 + 1) (drop (at + 1) words)
next_reply list words at word within is =
    ap (reply_lines list (at + 1)) (drop-cons words at word within ∙ ap (λ w. w ∷ drop (suc at) words) is)
    ∙ ap (λ i. reply_line list (at + 1) word ++ reply_lines list (at + 1 + 1) (drop i words)) (sym (add-one at))

pub next_list : (lists : List (List (List ℕ))) (list : ℕ) → list < length lists → all_reply_lines (list + 1) (drop list lists) ≡ reply_lines (list + 1) 1 (get_or lists list []) ++ all_reply_lines (list + 1 + 1) (drop (list + 1) lists)
next_list lists list within =
    ap (all_reply_lines (list + 1)) (drop-cons lists list [] within)
    ∙ ap (λ i. reply_lines (list + 1) 1 (get_or lists list []) ++ all_reply_lines (list + 1 + 1) (drop i lists)) (sym (add-one list))

pub stands : (lists : List (List (List ℕ))) (list : ℕ) → list < length lists → slice_get lists list ≡ Some (get_or lists list [])
stands lists list within = slice_get-get_or lists list [] within

-- ---- lines that are gathered in a block

-- one more line is gathered, where there is room for it, or after what was gathered is appended
pub one_gathered : (text block now free line put behind rest whole : List ℕ) → text ++ (block ++ rest) ≡ whole
    → now ++ free ≡ text ++ block → put ≡ free ++ line → rest ≡ line ++ behind → now ++ (put ++ behind) ≡ whole
one_gathered text block now free line put behind rest whole so_far room gathered next =
    ap (λ l. now ++ (l ++ behind)) gathered ∙ ap (λ l. now ++ l) (append_assoc free line behind)
    ∙ sym (append_assoc now free (line ++ behind)) ∙ ap (λ l. l ++ (line ++ behind)) room
    ∙ append_assoc text block (line ++ behind) ∙ ap (λ l. text ++ (block ++ l)) (sym next) ∙ so_far

-- what is put behind the first part of a block ends there
pub placed : (free size k : ℕ) (block line : List ℕ) → free ≤ length block → length line ≡ size
    → take (free + size) (put_mid free k block line) ≡ take free block ++ line
placed free size k block line within long =
    ap (take (free + size)) (sym (append_assoc (take free block) line (post_of free k block)))
    ∙ take_at (take free block ++ line) (post_of free k block) (free + size)
    (omega (arith, length-append (take free block) line, length-take-le free block within))

-- ---- one line, put from its end on

-- the parts of a line, each before what was put before it
pub line_put : (list at : ℕ) (word : List ℕ) (l₁ l₂ l₃ l₄ l₅ l₆ : List ℕ) → l₁ ≡ 10 ∷ [] → l₂ ≡ word ++ l₁
    → l₃ ≡ 32 ∷ l₂ → l₄ ≡ decimal at ++ l₃ → l₅ ≡ 32 ∷ l₄ → l₆ ≡ decimal list ++ l₅ → l₆ ≡ reply_line list at word
line_put list at word l₁ l₂ l₃ l₄ l₅ l₆ a b c d e f = rw (f, e, d, c, b, a) refl

one_ascii : (byte : ℕ) → byte < 128 → IsAscii (byte ∷ [])
one_ascii byte small zero = small
one_ascii byte small (suc i) = omega arith

-- a line is text, where its word is
pub line_is_utf8 : (list at : ℕ) (word : List ℕ) → list < 2 ^ 64 → at < 2 ^ 64 → IsUtf8 word → IsUtf8 (reply_line list at word)
line_is_utf8 list at word small few text =
    let number : (n : ℕ) → n < 2 ^ 64 → IsUtf8 (decimal n) = λ n fits. IsUtf8-from_ascii (decimal n) (IsAscii-decimal n fits) in
    let space = IsUtf8-from_ascii (32 ∷ []) (one_ascii 32 (omega arith)) in
    let end = IsUtf8-from_ascii (10 ∷ []) (one_ascii 10 (omega arith)) in
    let ending = IsUtf8-append word (10 ∷ []) text end in
    let behind = IsUtf8-append (decimal at) (32 ∷ (word ++ 10 ∷ [])) (number at few)
    (IsUtf8-append (32 ∷ []) (word ++ 10 ∷ []) space ending) in
    IsUtf8-append (decimal list) (32 ∷ (decimal at ++ 32 ∷ (word ++ 10 ∷ []))) (number list small)
    (IsUtf8-append (32 ∷ []) (decimal at ++ 32 ∷ (word ++ 10 ∷ [])) space behind)
