-- The bytes of an image: one piece for each cell.
use Rattle.std.proofs.Common.{◌≡◌, ℕ, zero, suc, ◌+◌, ◌*◌, ◌<◌, ◌≤◌, ⊎_elim, List, [], ◌∷◌, ◌++◌, length, get_or, take, drop, replicate, Some, None, sym, ap, ◌∙◌, arith}
use Rattle.store_spec.proofs.Common.{All, All-contains, Ballot, Election, IsElection, IsValid, ballot_bytes, ballot_of, bank_size, cell_at, cell_bytes, cell_count, cell_size, cells_of, drop-drop, drop_at, first_cells, flat_map, flat_map-cons, header_of, header_size, image_of, length-append, length-drop, length-replicate, option_map_or, replicate-append-replicate, take-add, take-append-drop, take_all, take_at, take_more}
use Rattle.std.proofs.lemmas.List.{flat_map_more}
use Rattle.body_store.proofs.BallotSets.{MayHold, held_layout}
use Rattle.ballot_record.proofs.Lookups.{option_cases, found_in}
use Rattle.ballot_record.proofs.CellFormat.{length-header_of, length-ballot_bytes}

-- ---- lists of pieces of one width

pub drop_pieces : (f : ℕ → List ℕ) (width : ℕ) (xs : List ℕ) (i : ℕ) → ((x : ℕ) → length (f x) ≡ width) → i < length xs → drop (i * width) (flat_map f xs) ≡ f (get_or xs i 0) ++ flat_map f (drop (suc i) xs)
drop_pieces f width [] i each lt = absurd (omega arith)
drop_pieces f width (x ∷ xs) zero each lt = ap (λ k. drop k (flat_map f (x ∷ xs))) (let e : 0 * width ≡ 0 = omega arith in e) ∙ flat_map-cons f x xs
drop_pieces f width (x ∷ xs) (suc i) each lt =
    ap (λ k. drop k (flat_map f (x ∷ xs))) (let e : suc i * width ≡ width + i * width = omega arith in e)
    ∙ ap (drop (width + i * width)) (flat_map-cons f x xs)
    ∙ sym (drop-drop (i * width) width (f x ++ flat_map f xs))
    ∙ ap (drop (i * width)) (drop_at (f x) (flat_map f xs) width (each x))
    ∙ drop_pieces f width xs i each (omega arith)

pub length_pieces : (f : ℕ → List ℕ) (width : ℕ) (xs : List ℕ) → ((x : ℕ) → length (f x) ≡ width) → length (flat_map f xs) ≡ length xs * width
length_pieces f width [] each = let none : 0 ≡ 0 * width = omega arith in none
length_pieces f width (x ∷ xs) each = omega (arith, ap length (flat_map-cons f x xs), length-append (f x) (flat_map f xs), each x, length_pieces f width xs each)

pub piece_at : (f : ℕ → List ℕ) (width : ℕ) (xs : List ℕ) (i : ℕ) → ((x : ℕ) → length (f x) ≡ width) → i < length xs → take width (drop (i * width) (flat_map f xs)) ≡ f (get_or xs i 0)
piece_at f width xs i each lt = ap (take width) (drop_pieces f width xs i each lt) ∙ take_at (f (get_or xs i 0)) (flat_map f (drop (suc i) xs)) width (each (get_or xs i 0))

pub pieces_more : (f : ℕ → List ℕ) (xs : List ℕ) (i : ℕ) → i < length xs → flat_map f (take i xs) ++ f (get_or xs i 0) ≡ flat_map f (take (i + 1) xs)
pieces_more f xs i there =
    flat_map_more f [] (take i xs) (get_or xs i 0)
    ∙ ap (flat_map f) (sym (take_more xs i 0 there))

-- equal pieces
pub pieces_of_one : (f : ℕ → List ℕ) (size x count : ℕ) → f x ≡ replicate size 0 → flat_map f (replicate count x) ≡ replicate (count * size) 0
pieces_of_one f size x zero blank =
    let none : 0 * size ≡ 0 = omega arith in
    ap (λ n. replicate n 0) (sym none)
pieces_of_one f size x (suc more) blank =
    let long : suc more * size ≡ size + more * size = omega arith in
    ap (λ (bytes : List ℕ). bytes ++ flat_map f (replicate more x)) blank
    ∙ ap (λ (bytes : List ℕ). replicate size 0 ++ bytes) (pieces_of_one f size x more blank)
    ∙ replicate-append-replicate size (more * size) 0
    ∙ ap (λ n. replicate n 0) (sym long)

-- ---- cells

pub cell_of_found : (e : Election) (ballots : List Ballot) (number : ℕ) (b : Ballot) → ballot_of ballots number ≡ Some b → cell_bytes e ballots number ≡ ballot_bytes e b
cell_of_found e ballots number b found = ap (λ o. option_map_or (ballot_bytes e) o (replicate (cell_size e) 0)) found

pub cell_of_none : (e : Election) (ballots : List Ballot) (number : ℕ) → ballot_of ballots number ≡ None → cell_bytes e ballots number ≡ replicate (cell_size e) 0
cell_of_none e ballots number none = ap (λ o. option_map_or (ballot_bytes e) o (replicate (cell_size e) 0)) none

-- no ballot has number 0, so a cell with that number is empty
pub cell_of_zero : (e own : Election) (ballots : List Ballot) → All (IsValid own) ballots → cell_bytes e ballots 0 ≡ replicate (cell_size e) 0
cell_of_zero e own ballots valid = ⊎_elim
    (λ (none : ballot_of ballots 0 ≡ None). cell_of_none e ballots 0 none)
    (λ some.
    let found = found_in ballots 0 some.0 some.1 in
    let b_valid = All-contains (IsValid own) ballots some.0 valid found.0 in
    absurd (omega (arith, b_valid.some_number, found.1)))
    (option_cases (ballot_of ballots 0))

pub length-cell_bytes : (e : Election) (ballots : List Ballot) (number : ℕ) → IsElection e → All (IsValid e) ballots → length (cell_bytes e ballots number) ≡ cell_size e
length-cell_bytes e ballots number election valid = ⊎_elim
    (λ (none : ballot_of ballots number ≡ None). ap length (cell_of_none e ballots number none) ∙ length-replicate (cell_size e) 0)
    (λ some.
    let found = found_in ballots number some.0 some.1 in
    ap length (cell_of_found e ballots number some.0 some.1) ∙ length-ballot_bytes e some.0 election (All-contains (IsValid e) ballots some.0 valid found.0))
    (option_cases (ballot_of ballots number))

-- ---- the image

pub length-image_of : (e : Election) (ballots : List Ballot) → IsElection e → MayHold e ballots → length (image_of e ballots) ≡ bank_size e
length-image_of e ballots election held =
    let cells = cells_of e ballots in
    let pieces = length_pieces (cell_bytes e ballots) (cell_size e) cells (λ x. length-cell_bytes e ballots x election held.listing.valid) in
    length-append (header_of e) (flat_map (cell_bytes e ballots) cells)
    ∙ ap (λ n. n + length (flat_map (cell_bytes e ballots) cells)) (length-header_of e)
    ∙ ap (λ n. header_size + n) (pieces ∙ ap (λ n. n * cell_size e) (held_layout e ballots election held).size)

pub cells_of_image : (e : Election) (ballots : List Ballot) → drop header_size (image_of e ballots) ≡ flat_map (cell_bytes e ballots) (cells_of e ballots)
cells_of_image e ballots = drop_at (header_of e) (flat_map (cell_bytes e ballots) (cells_of e ballots)) header_size (length-header_of e)

-- each cell of an image has the bytes of its number
pub cell_of_image : (e : Election) (ballots : List Ballot) (cell : ℕ) → IsElection e → MayHold e ballots → cell < cell_count e → cell_at e cell (image_of e ballots) ≡ cell_bytes e ballots (get_or (cells_of e ballots) cell 0)
cell_of_image e ballots cell election held within =
    ap (take (cell_size e)) (sym (drop-drop (cell * cell_size e) header_size (image_of e ballots)) ∙ ap (drop (cell * cell_size e)) (cells_of_image e ballots))
    ∙ piece_at (cell_bytes e ballots) (cell_size e) (cells_of e ballots) cell (λ x. length-cell_bytes e ballots x election held.listing.valid) (omega (arith, (held_layout e ballots election held).size))

pub one_cell_more : (e : Election) (place : ℕ) (bank : List ℕ) → first_cells e (place + 1) bank ≡ first_cells e place bank ++ cell_at e place bank
one_cell_more e place bank =
    let size = cell_size e in
    ap (λ k. take k (drop header_size bank)) (let same : (place + 1) * size ≡ place * size + size = omega arith in same)
    ∙ take-add (place * size) size (drop header_size bank)
    ∙ ap (λ bytes. first_cells e place bank ++ take size bytes) (drop-drop (place * size) header_size bank)

first_pieces : (e : Election) (f : ℕ → List ℕ) (cells bank : List ℕ) (n : ℕ) → n ≤ length cells → ((cell : ℕ) → cell < length cells → cell_at e cell bank ≡ f (get_or cells cell 0)) → first_cells e n bank ≡ flat_map f (take n cells)
first_pieces e f cells bank zero within each = ap (λ k. take k (drop header_size bank)) (let none : 0 * cell_size e ≡ 0 = omega arith in none)
first_pieces e f cells bank (suc n) within each =
    let next : suc n ≡ n + 1 = omega arith in
    ap (λ k. first_cells e k bank) next
    ∙ one_cell_more e n bank
    ∙ ap (λ bytes. bytes ++ cell_at e n bank) (first_pieces e f cells bank n (omega arith) each)
    ∙ ap (λ bytes. flat_map f (take n cells) ++ bytes) (each n (omega arith))
    ∙ pieces_more f cells n (omega arith)
    ∙ ap (λ k. flat_map f (take k cells)) (sym next)

-- bytes with the header, and in each cell the bytes of its number, are the image
pub image_from_cells : (e : Election) (ballots : List Ballot) (bank : List ℕ) → IsElection e → MayHold e ballots → length bank ≡ bank_size e → take header_size bank ≡ header_of e
    → ((cell : ℕ) → cell < cell_count e → cell_at e cell bank ≡ cell_bytes e ballots (get_or (cells_of e ballots) cell 0)) → bank ≡ image_of e ballots
image_from_cells e ballots bank election held long header each =
    let cells = cells_of e ballots in
    let size = (held_layout e ballots election held).size in
    let f = cell_bytes e ballots in
    let all : first_cells e (cell_count e) bank ≡ drop header_size bank = take_all (cell_count e * cell_size e) (drop header_size bank) (omega (arith, length-drop header_size bank, long)) in
    sym (take-append-drop header_size bank)
    ∙ ap (λ front. front ++ drop header_size bank) header
    ∙ ap (λ rest. header_of e ++ rest)
    (sym all
    ∙ first_pieces e f cells bank (cell_count e) (omega (arith, size)) (λ cell lt. each cell (omega (arith, lt, size)))
    ∙ ap (flat_map f) (take_all (cell_count e) cells (omega (arith, size))))
