-- The first cells of a bank, as they are read in order.
use Rattle.std.proofs.Common.{◌≡◌, ◌≢◌, ℕ, zero, suc, ◌+◌, ◌*◌, ◌^◌, ◌<◌, ◌≤◌, ⊎_elim, List, [], ◌∷◌, ◌++◌, length, get_or, take, drop, None, refl, sym, ap, subst, ◌∙◌, arith}
use Rattle.store_spec.proofs.Common.{All, All-contains, AllPairs, Ballot, BeginsAnImage, Contains, Election, HasRoom, IsElection, IsLayout, IsOrdered, IsValid, append-nil, ballot_of, cases_eq, cell_bytes, cell_count, cell_size, cells_of, drop_at, first_cells, flat_map, flat_map-cons, header_of, header_size, home_in, image_of, layout_of, number_at, numbers_in, numbers_of, take-add, take-take, take_at}
use Rattle.std.proofs.lemmas.List.Concat.{flat_map-append}
use Rattle.body_store.proofs.BallotSets.{MayHold, has_room, limit-IsPermutation}
use Rattle.ballot_record.proofs.BallotSets.{in_order, in_order-IsPermutation, set_of_listing}
use Rattle.body_store.proofs.Listings.{image_of-IsPermutation}
use Rattle.body_store.proofs.Images.{length-cell_bytes, cell_of_found, cell_of_none}
use Rattle.ballot_record.proofs.Lookups.{option_cases, found_in, missing_from}
use Rattle.ballot_record.proofs.BallotNumbers.{ballot_with, pairs_of_ballots}
use Rattle.layout_def.proofs.Fronts.{distinct_in, front_is_layout}
use Rattle.layout_def.proofs.LaidOut.{layout_of_is}
use Rattle.ballot_record.proofs.CellFormat.{length-header_of, number_of_bytes, number_of_zeros}

-- ---- lists of pieces

pub split_same : {X : Type 0} (xs ys vs ws : List X) → length xs ≡ length ys → xs ++ vs ≡ ys ++ ws → (xs ≡ ys) × (vs ≡ ws)
split_same xs ys vs ws long same = (
  sym (take_at xs vs (length xs) refl) ∙ ap (take (length xs)) same ∙ take_at ys ws (length xs) (sym long),
  sym (drop_at xs vs (length xs) refl) ∙ ap (drop (length xs)) same ∙ drop_at ys ws (length xs) (sym long),
)

take_pieces : (f : ℕ → List ℕ) (width : ℕ) (xs : List ℕ) (n : ℕ) → ((x : ℕ) → length (f x) ≡ width) → n ≤ length xs → take (n * width) (flat_map f xs) ≡ flat_map f (take n xs)
take_pieces f width xs zero each le = ap (λ k. take k (flat_map f xs)) (let e : 0 * width ≡ 0 = omega arith in e)
take_pieces f width [] (suc n) each le = absurd (omega arith)
take_pieces f width (x ∷ xs) (suc n) each le =
    ap (λ k. take k (flat_map f (x ∷ xs))) (let e : suc n * width ≡ width + n * width = omega arith in e)
    ∙ ap (take (width + n * width)) (flat_map-cons f x xs)
    ∙ take-add width (n * width) (f x ++ flat_map f xs)
    ∙ ap (λ bytes. bytes ++ take (n * width) (drop width (f x ++ flat_map f xs))) (take_at (f x) (flat_map f xs) width (each x))
    ∙ ap (λ bytes. f x ++ take (n * width) bytes) (drop_at (f x) (flat_map f xs) width (each x))
    ∙ ap (λ bytes. f x ++ bytes) (take_pieces f width xs n each (omega arith))
    ∙ sym (flat_map-cons f x (take n xs))

pub piece_more : (f : ℕ → List ℕ) (xs : List ℕ) (x : ℕ) → flat_map f (xs ++ x ∷ []) ≡ flat_map f xs ++ f x
piece_more f xs x = flat_map-append f xs (x ∷ []) ∙ ap (λ bytes. flat_map f xs ++ bytes) (flat_map-cons f x [] ∙ append-nil (f x))

pub same_pieces : (f g : ℕ → List ℕ) (xs : List ℕ) → ((i : ℕ) → i < length xs → f (get_or xs i 0) ≡ g (get_or xs i 0)) → flat_map f xs ≡ flat_map g xs
same_pieces f g [] same = refl
same_pieces f g (x ∷ xs) same =
    flat_map-cons f x xs ∙ ap (λ bytes. bytes ++ flat_map f xs) (same 0 (omega arith))
    ∙ ap (λ bytes. g x ++ bytes) (same_pieces f g xs (λ i lt. same (suc i) (omega arith))) ∙ sym (flat_map-cons g x xs)

-- ---- the number at the front of a cell

abbrev pub IsKnown : List Ballot → ℕ → Type 0
IsKnown ballots v = v ≢ 0 → Contains (numbers_of ballots) v

pub number_in_cell : (e : Election) (ballots : List Ballot) (v : ℕ) → All (IsValid e) ballots → IsKnown ballots v → number_at (cell_bytes e ballots v) ≡ v
number_in_cell e ballots v valid known = ⊎_elim
    (λ (none : ballot_of ballots v ≡ None).
    let zero_number : v ≡ 0 = ⊎_elim (λ (z : v ≡ 0). z)
    (λ (n : v ≢ 0). let with = ballot_with ballots v (known n) in absurd (missing_from ballots v none with.0 with.1 with.2))
    (cases_eq v 0) in
    ap number_at (cell_of_none e ballots v none) ∙ number_of_zeros e ∙ sym zero_number)
    (λ some.
    let found = found_in ballots v some.0 some.1 in
    let own = All-contains (IsValid e) ballots some.0 valid found.0 in
    ap number_at (cell_of_found e ballots v some.0 some.1) ∙ number_of_bytes e some.0 own.short_number ∙ found.1)
    (option_cases (ballot_of ballots v))

-- cells that begin with their numbers are those of one list of numbers
pub same_numbers : (f g : ℕ → List ℕ) (xs ys : List ℕ) → length xs ≡ length ys → ((x y : ℕ) → length (f x) ≡ length (g y))
    → ((i : ℕ) → i < length xs → number_at (f (get_or xs i 0)) ≡ get_or xs i 0) → ((i : ℕ) → i < length ys → number_at (g (get_or ys i 0)) ≡ get_or ys i 0)
    → flat_map f xs ≡ flat_map g ys → xs ≡ ys
same_numbers f g [] [] long wide first second same = refl
same_numbers f g [] (y ∷ ys) long wide first second same = absurd (omega arith)
same_numbers f g (x ∷ xs) [] long wide first second same = absurd (omega arith)
same_numbers f g (x ∷ xs) (y ∷ ys) long wide first second same =
    let parts = split_same (f x) (g y) (flat_map f xs) (flat_map g ys) (wide x y) (sym (flat_map-cons f x xs) ∙ same ∙ flat_map-cons g y ys) in
    let head : x ≡ y = sym (first 0 (omega arith)) ∙ ap number_at parts.0 ∙ second 0 (omega arith) in
    let rest = same_numbers f g xs ys (omega arith) wide (λ i lt. first (suc i) (omega arith)) (λ i lt. second (suc i) (omega arith)) parts.1 in
    ap (λ n. n ∷ xs) head ∙ ap (λ ns. y ∷ ns) rest

-- ---- the first cells of a bank

pub front_of_image : (e : Election) (ballots : List Ballot) (n : ℕ) → IsElection e → All (IsValid e) ballots → n ≤ length (cells_of e ballots) → first_cells e n (image_of e ballots) ≡ flat_map (cell_bytes e ballots) (take n (cells_of e ballots))
front_of_image e ballots n election valid le =
    ap (take (n * cell_size e)) (drop_at (header_of e) (flat_map (cell_bytes e ballots) (cells_of e ballots)) header_size (length-header_of e))
    ∙ take_pieces (cell_bytes e ballots) (cell_size e) (cells_of e ballots) n (λ x. length-cell_bytes e ballots x election valid) le

-- fewer cells begin an image too
pub begins_fewer : (e : Election) (n m : ℕ) (bank : List ℕ) → n ≤ m → BeginsAnImage e m bank → BeginsAnImage e n bank
begins_fewer e n m bank le begins =
    let size = cell_size e in
    let less : n * size ≤ m * size = grind arith in
    let image = image_of e begins.0 in (
      begins.0,
      begins.1,
      begins.2,
      sym (take-take (n * size) (m * size) (drop header_size bank) less) ∙ ap (take (n * size)) begins.3 ∙ take-take (n * size) (m * size) (drop header_size image) less,
    )

-- ---- what was read so far

-- the first cells of the bank hold these numbers, in order, and each number's cell these ballots' bytes
pub record AreRead (e : Election) (bank : List ℕ) (place : ℕ) (numbers : List ℕ) (ballots : List Ballot) : Type 0 where
  pub size : length numbers ≡ place
  pub ordered : IsOrdered (home_in e) numbers
  pub same : numbers_of ballots ≡ numbers_in numbers
  pub valid : All (IsValid e) ballots
  pub few : length ballots ≤ e.limit
  pub bytes : first_cells e place bank ≡ flat_map (cell_bytes e ballots) numbers

-- ordered numbers are those of a listing
pub listing_ordered : (e : Election) (numbers : List ℕ) (ballots : List Ballot) → IsOrdered (home_in e) numbers → numbers_of ballots ≡ numbers_in numbers → All (IsValid e) ballots → length ballots ≤ e.limit → MayHold e ballots
listing_ordered e numbers ballots ordered same valid few = record {
  listing = record {
    valid = valid;
    distinct = pairs_of_ballots (λ a b. a ≢ b) ballots (subst (λ (ns : List ℕ). AllPairs (λ a b. a ≢ b) ns) (sym same) (distinct_in (home_in e) numbers ordered));
  };
  within_limit = few;
}

pub listing_read : (e : Election) (bank : List ℕ) (place : ℕ) (numbers : List ℕ) (ballots : List Ballot) → AreRead e bank place numbers ballots → MayHold e ballots
listing_read e bank place numbers ballots read = listing_ordered e numbers ballots read.ordered read.same read.valid read.few

pub front_read : (e : Election) (bank : List ℕ) (place : ℕ) (numbers : List ℕ) (ballots : List Ballot) → IsElection e → place ≤ cell_count e → AreRead e bank place numbers ballots → take place (cells_of e ballots) ≡ numbers
front_read e bank place numbers ballots election le read =
    let room = subst (λ (ns : List ℕ). HasRoom (home_in e) (2 ^ e.bits) (cell_count e) ns) read.same (has_room e ballots election (listing_read e bank place numbers ballots read)) in
    ap (λ ns. take place (layout_of (home_in e) (cell_count e) ns)) read.same
    ∙ ap (λ k. take k (layout_of (home_in e) (cell_count e) (numbers_in numbers))) (sym read.size)
    ∙ front_is_layout (home_in e) (2 ^ e.bits) (cell_count e) numbers room read.ordered (omega (arith, read.size))

pub layout_read : (e : Election) (ballots : List Ballot) → IsElection e → MayHold e ballots → IsLayout (home_in e) (cell_count e) (numbers_of ballots) (cells_of e ballots)
layout_read e ballots election held = layout_of_is _ _ _ _ (has_room e ballots election held)

pub begins_read : (e : Election) (bank : List ℕ) (place : ℕ) (numbers : List ℕ) (ballots : List Ballot) → IsElection e → place ≤ cell_count e → AreRead e bank place numbers ballots → BeginsAnImage e place bank
begins_read e bank place numbers ballots election le read =
    let held = listing_read e bank place numbers ballots read in
    let layout = layout_read e ballots election held in
    let ordered = in_order-IsPermutation ballots in (
      in_order ballots,
      set_of_listing e ballots held.listing,
      limit-IsPermutation e ballots (in_order ballots) ordered held.within_limit,
      read.bytes ∙ ap (flat_map (cell_bytes e ballots)) (sym (front_read e bank place numbers ballots election le read))
          ∙ sym (front_of_image e ballots place election read.valid (omega (arith, layout.size)))
          ∙ ap (first_cells e place) (image_of-IsPermutation e ballots (in_order ballots) held.listing.distinct ordered),
    )
