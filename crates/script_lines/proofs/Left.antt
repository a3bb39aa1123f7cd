-- What the source of the generated script has left.
use Rattle.std.proofs.Common.{◌≡◌, ℕ, zero, suc, ◌+◌, ◌-◌, ◌*◌, ◌/◌, ◌<◌, ◌≤◌, true, false, List, [], ◌∷◌, ◌++◌, length, map, take, drop, Option, Some, None, refl, sym, ap, ◌∙◌, arith, append_assoc, length-append}
use Rattle.store_spec.proofs.Common.{Election, Withdrawing, codes, drop_all, drop_more, get_or_from_slice_get, is_some, length-map-range_with_len, length-take-le, lines_text, open_text, range_with_len, slice_get_within, take-append-add, take-append-le, take_at, unwrap_or}
use Rattle.std.proofs.lemmas.Simd.{chunk-drop}
use Rattle.std.specs.List.{slice_get}
use Rattle.script_lines.specs.Generated.{ballot_count, cast_line, generated, withdraw_line}

-- there is a line at a place, or none
is_there : (o : Option (List ℕ)) → true ≡ is_some o → o ≡ Some (unwrap_or o [])
is_there None some = absurd cc
is_there (Some line) some = refl

is_none : (o : Option (List ℕ)) → false ≡ is_some o → o ≡ None
is_none None none = refl
is_none (Some line) none = absurd cc

none_past : (lines : List (List ℕ)) (place : ℕ) → slice_get lines place ≡ None → drop place lines ≡ []
none_past [] zero none = refl
none_past [] (suc place) none = refl
none_past (line ∷ lines) zero none = absurd cc
none_past (line ∷ lines) (suc place) none = none_past lines place none

some_at : (lines : List (List ℕ)) (place : ℕ) (line : List ℕ) → slice_get lines place ≡ Some line → drop place lines ≡ line ∷ drop (place + 1) lines
some_at lines place line found =
    drop_more lines place line (slice_get_within lines place line found) ∙ ap (λ first. first ∷ drop (place + 1) lines) (get_or_from_slice_get lines place line line found)

-- past the end of the script, once the last line was given, nothing is left
pub nothing_left : (lines : List (List ℕ)) (index given : ℕ) (line : List ℕ) → given ≡ length line → false ≡ is_some (slice_get lines (index + 1 - 1))
    → drop given line ++ lines_text (drop index lines) ≡ []
nothing_left lines index given line all none =
    let place : index + 1 - 1 ≡ index = omega arith in
    rw (drop_all given line (omega arith), none_past lines index (ap (slice_get lines) (sym place) ∙ is_none (slice_get lines (index + 1 - 1)) none)) refl

-- the next line stands ready, and what is left is the same
pub line_ready : (lines : List (List ℕ)) (index given : ℕ) (line ready : List ℕ) → given ≡ length line → true ≡ is_some (slice_get lines (index + 1 - 1))
    → ready ≡ unwrap_or (slice_get lines (index + 1 - 1)) [] ++ 10 ∷ []
    → ready ++ lines_text (drop (index + 1) lines) ≡ drop given line ++ lines_text (drop index lines)
line_ready lines index given line ready all some made =
    let place : index + 1 - 1 ≡ index = omega arith in
    let next = unwrap_or (slice_get lines (index + 1 - 1)) [] in
    let found : slice_get lines index ≡ Some next = ap (slice_get lines) (sym place) ∙ is_there (slice_get lines (index + 1 - 1)) some in
    rw (drop_all given line (omega arith), some_at lines index next found, made) refl

-- ---- how many lines there are

pub length_generated : (e : Election) (seed count tabs : ℕ) → length (generated e seed count tabs) ≡ ballot_count e count + ballot_count e count / 10 + 6
length_generated e seed count tabs =
    let n = ballot_count e count in
    let casts = map (cast_line e seed tabs) (range_with_len 1 n) in
    let behind = codes "close" ∷ open_text Withdrawing tabs ∷ map (withdraw_line seed tabs) (range_with_len 1 (n / 10)) in
    let closing = codes "close" ∷ codes "checkpoint" ∷ codes "tally" ∷ [] in
    omega (arith, length-append (casts ++ behind) closing, length-append casts behind, length-map-range_with_len (cast_line e seed tabs) 1 n, length-map-range_with_len (withdraw_line seed tabs) 1 (n / 10))

pub few_lines : (e : Election) (seed count tabs place : ℕ) → true ≡ is_some (slice_get (generated e seed count tabs) place) → place < 2 * count + 6
few_lines e seed count tabs place some =
    let lines = generated e seed count tabs in
    let within : place < length lines = slice_get_within lines place (unwrap_or (slice_get lines place) []) (is_there (slice_get lines place) some) in
    omega (arith, length_generated e seed count tabs)

-- ---- a read, piece by piece

-- so many bytes of the line that stands ready were copied to the front of a buffer
pub copied_on : (given count : ℕ) (line copied behind rest : List ℕ) → length copied ≡ count → copied ≡ take (given + count - given) (drop given line)
    → drop given line ++ rest ≡ take count (copied ++ behind) ++ (drop (given + count) line ++ rest)
copied_on given count line copied behind rest size is =
    let same : given + count - given ≡ count = omega arith in
    let front : take count (drop given line) ≡ take count (copied ++ behind) =
    ap (λ n. take n (drop given line)) (sym same) ∙ sym is ∙ sym (take_at copied behind count size) in
    ap (λ text. text ++ rest) (chunk-drop given count line ∙ ap (λ text. text ++ drop (given + count) line) front)
    ∙ append_assoc (take count (copied ++ behind)) (drop (given + count) line) rest

-- a further piece was given behind those that the front of the buffer has
pub piece_more : (whole buf tail behind left after : List ℕ) (count piece : ℕ) → count ≤ length buf → piece ≤ length tail
    → whole ≡ take count buf ++ left → left ≡ take piece tail ++ after → whole ≡ take (count + piece) (take count buf ++ (tail ++ behind)) ++ after
piece_more whole buf tail behind left after count piece within short so_far gave =
    let front = take count buf in
    let sized : length front ≡ count = length-take-le count buf within in
    so_far ∙ ap (λ rest. front ++ rest) gave ∙ sym (append_assoc front (take piece tail) after)
    ∙ ap (λ rest. front ++ rest ++ after) (sym (take-append-le piece tail behind short))
    ∙ ap (λ text. text ++ after) (sym (take-append-add front (tail ++ behind) piece))
    ∙ ap (λ n. take (n + piece) (front ++ (tail ++ behind)) ++ after) sized
