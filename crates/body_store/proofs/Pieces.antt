-- The bytes of an image, cell by cell.
use Rattle.std.proofs.Common.{◌≡◌, ◌≢◌, ℕ, zero, suc, ◌+◌, ◌*◌, ◌<◌, ◌≤◌, ⊎_elim, List, [], ◌∷◌, ◌++◌, length, get_or, take, drop, sym, ap, ◌∙◌, arith, length-append, mul-le-mul_right}
use Rattle.store_spec.proofs.Common.{cases_order, drop-drop, drop-take, drop_at, flat_map, flat_map-cons, header_size, length-take-le, take_at}
use Rattle.std.proofs.lemmas.Slice.{take-put_mid, take-put_mid_below, drop-put_mid}
use Rattle.ballot_record.proofs.CellFormat.{header_width}
use Rattle.ballot_record.specs.declared.format.TheConstants.{HEADER_BYTES}
use Rattle.body_store.specs.Moves.{cell_in}
use borrow.Rule.Slice.PartMut.{put_mid}

-- a cell ends before a later one begins
pub ends_before : (cell later size : ℕ) → cell < later → cell * size + size ≤ later * size
ends_before cell later size before =
    let next : (cell + 1) * size ≡ cell * size + size = omega arith in
    let fits : (cell + 1) * size ≤ later * size = mul-le-mul_right size (let le : cell + 1 ≤ later = omega arith in le) in
    omega (arith, next, fits)

-- where a cell begins
pub cell_start : (cell size : ℕ) → HEADER_BYTES + cell * size ≡ header_size + cell * size
cell_start cell size = ap (λ header. header + cell * size) (sym header_width)

-- where one cell is written, it has what was written
pub this_put : (size cell at k : ℕ) (image bytes : List ℕ) → at ≡ header_size + cell * size → length bytes ≡ size
    → header_size + cell * size + size ≤ length image → cell_in size cell (put_mid at k image bytes) ≡ bytes
this_put size cell at k image bytes place long room =
    let now = put_mid at k image bytes in
    ap (λ from. take size (drop from now)) (sym place)
    ∙ sym (drop-take at size now)
    ∙ ap (drop at) (take-put_mid at k image bytes (at + size) (omega arith) (omega arith))
    ∙ drop_at (take at image) bytes at (length-take-le at image (omega arith))

-- where one cell is written, the others are as before
pub others_same : (size cell other at k : ℕ) (image bytes : List ℕ) → at ≡ header_size + cell * size → k ≡ size
    → length bytes ≡ size → header_size + cell * size + size ≤ length image → other ≢ cell
    → cell_in size other (put_mid at k image bytes) ≡ cell_in size other image
others_same size cell other at k image bytes place same long room apart =
    let from = header_size + other * size in
    let now = put_mid at k image bytes in
    ⊎_elim
    (λ (equal : other ≡ cell). absurd (apart equal))
    (λ order. ⊎_elim
    (λ (before : other < cell).
    sym (drop-take from size now)
    ∙ ap (drop from) (take-put_mid_below at k image bytes (from + size)
    (omega (arith, ends_before other cell size before)) (omega arith))
    ∙ drop-take from size image)
    (λ (after : cell < other).
    ap (take size) (drop-put_mid at k image bytes from
    (omega (arith, ends_before cell other size after)) (omega arith) (long ∙ sym same)))
    order)
    (cases_order other cell)

-- ---- lists of pieces of one width

pub drop_pieces : (f : ℕ → List ℕ) (width : ℕ) (xs : List ℕ) (i : ℕ) → ((x : ℕ) → length (f x) ≡ width) → i < length xs
    → drop (i * width) (flat_map f xs) ≡ f (get_or xs i 0) ++ flat_map f (drop (suc i) xs)
drop_pieces f width [] i each lt = absurd (omega arith)
drop_pieces f width (x ∷ xs) zero each lt =
    ap (λ k. drop k (flat_map f (x ∷ xs))) (let e : 0 * width ≡ 0 = omega arith in e) ∙ flat_map-cons f x xs
drop_pieces f width (x ∷ xs) (suc i) each lt =
    ap (λ k. drop k (flat_map f (x ∷ xs))) (let e : suc i * width ≡ width + i * width = omega arith in e)
    ∙ ap (drop (width + i * width)) (flat_map-cons f x xs)
    ∙ sym (drop-drop (i * width) width (f x ++ flat_map f xs))
    ∙ ap (drop (i * width)) (drop_at (f x) (flat_map f xs) width (each x))
    ∙ drop_pieces f width xs i each (omega arith)

pub length_pieces : (f : ℕ → List ℕ) (width : ℕ) (xs : List ℕ) → ((x : ℕ) → length (f x) ≡ width)
    → length (flat_map f xs) ≡ length xs * width
length_pieces f width [] each = let none : 0 ≡ 0 * width = omega arith in none
length_pieces f width (x ∷ xs) each =
    omega
    (arith, ap length (flat_map-cons f x xs), length-append (f x) (flat_map f xs), each x, length_pieces f width xs each)

pub piece_at : (f : ℕ → List ℕ) (width : ℕ) (xs : List ℕ) (i : ℕ) → ((x : ℕ) → length (f x) ≡ width) → i < length xs
    → take width (drop (i * width) (flat_map f xs)) ≡ f (get_or xs i 0)
piece_at f width xs i each lt =
    ap (take width) (drop_pieces f width xs i each lt)
    ∙ take_at (f (get_or xs i 0)) (flat_map f (drop (suc i) xs)) width (each (get_or xs i 0))
