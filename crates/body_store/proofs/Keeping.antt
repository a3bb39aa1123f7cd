-- What is known of what a store keeps.
use Rattle.std.proofs.Common.{◌≡◌, ◌≢◌, ℕ, ◌+◌, ◌*◌, ◌^◌, ◌<◌, ◌≤◌, ⊎_elim, List, Some, ◌++◌, drop, length, get_or, take, sym, ap, subst, ◌∙◌, arith, mul-le-mul_right}
use Rattle.store_spec.proofs.Common.{All-contains, Ballot, Contains, Election, IsCellOf, IsElection, IsLayout, IsPermutation, IsValid, ascending, ballot_of, bank_size, cases_lt, cell_at, cell_bytes, cell_count, cell_size, cells_of, header_of, header_size, home_in, length-append, length-drop, length-take-le, length_permutation, most_ballots, numbers_in, numbers_of, pow_below, take_at}
use Rattle.ballot_record.proofs.BallotNumbers.{length-numbers_of, pairs_of_numbers}
use Rattle.ballot_record.proofs.BallotSets.{Ascend}
use Rattle.ballot_record.proofs.CellFormat.{length-header_of, spells_itself}
use Rattle.ballot_record.proofs.Lookups.{found_in}
use Rattle.ballot_record.specs.Format.{ballot_at}
use Rattle.body_store.proofs.BallotSets.{MayHold, cells_of-IsPermutation, held_layout, may_hold-IsPermutation, stored_by_number}
use Rattle.body_store.proofs.ByNumber.{by_number-IsPermutation}
use Rattle.body_store.proofs.Images.{cell_of_found, cell_of_image, length-image_of}
use Rattle.body_store.proofs.Listings.{image_of-IsPermutation}
use Rattle.body_store.proofs.Spelled.{ballot_known, known_in_layout, numbers_in_layout, spelled_by_number}
use Rattle.body_store.specs.ByNumber.{by_number}
use Rattle.body_store.specs.Contents.{IsStored}
use Rattle.body_store.specs.Held.{Shows, spelled_in}
use Rattle.body_store.specs.Kept.{IsKept, contents_of}
use Rattle.body_store.specs.declared.Closed.TheInside.{Inside}
use Rattle.layout_def.proofs.Ascending.{ascending-IsPermutation, ascending_rising}
use Rattle.store_spec.specs.Election.{most_bits, most_cells}

-- what is shown is held
pub shown_held : (e : Election) (ballots : List Ballot) (bytes numbers : List ℕ) → Shows e ballots bytes numbers → MayHold e ballots
shown_held e ballots bytes numbers shown = record { listing = shown.listing; within_limit = shown.within_limit }

pub shown_layout : (e : Election) (ballots : List Ballot) (bytes numbers : List ℕ) → Shows e ballots bytes numbers → IsLayout (home_in e) (cell_count e) (numbers_of ballots) numbers
shown_layout e ballots bytes numbers shown =
    subst (λ (cells : List ℕ). IsLayout (home_in e) (cell_count e) (numbers_of ballots) cells) (sym shown.cells)
    (held_layout e ballots shown.election (shown_held e ballots bytes numbers shown))

pub shown_size : (e : Election) (ballots : List Ballot) (bytes numbers : List ℕ) → Shows e ballots bytes numbers → length bytes ≡ bank_size e
shown_size e ballots bytes numbers shown = ap length shown.image ∙ length-image_of e ballots shown.election (shown_held e ballots bytes numbers shown)

pub shown_header : (e : Election) (ballots : List Ballot) (bytes numbers : List ℕ) → Shows e ballots bytes numbers → take header_size bytes ≡ header_of e
shown_header e ballots bytes numbers shown = ap (take header_size) shown.image ∙ take_at (header_of e) _ header_size (length-header_of e)

-- a cell ends within the bank
pub cell_within : (e : Election) (cell : ℕ) → cell < cell_count e → header_size + cell * cell_size e + cell_size e ≤ bank_size e
cell_within e cell within =
    let next : (cell + 1) * cell_size e ≡ cell * cell_size e + cell_size e = omega arith in
    let fits : (cell + 1) * cell_size e ≤ cell_count e * cell_size e = mul-le-mul_right (cell_size e) (let le : cell + 1 ≤ cell_count e = omega arith in le) in
    omega (arith, next, fits)

-- the ballot in a cell with a number, as its bytes spell it
pub cell_spelled : (e : Election) (ballots : List Ballot) (bytes numbers : List ℕ) (cell : ℕ) → Shows e ballots bytes numbers → cell < cell_count e → get_or numbers cell 0 ≢ 0
    → Some (ballot_at e (cell_at e cell bytes)) ≡ ballot_of ballots (get_or numbers cell 0)
cell_spelled e ballots bytes numbers cell shown within some =
    let held = shown_held e ballots bytes numbers shown in
    let number = get_or numbers cell 0 in
    let same : get_or (cells_of e ballots) cell 0 ≡ number = ap (λ ns. get_or ns cell 0) (sym shown.cells) in
    let found = ballot_known ballots number (subst (λ (v : ℕ). Contains (numbers_of ballots) v) same (known_in_layout e ballots shown.election held cell (λ z. some (sym same ∙ z)))) in
    let own = All-contains (IsValid e) ballots found.0 shown.listing.valid found.2 in
    ap (λ bytes. Some (ballot_at e (cell_at e cell bytes))) shown.image
    ∙ ap (λ bytes. Some (ballot_at e bytes))
    (cell_of_image e ballots cell shown.election held within ∙ ap (cell_bytes e ballots) same ∙ cell_of_found e ballots number found.0 found.1)
    ∙ ap (λ b. Some b) (spells_itself e found.0 shown.election own)
    ∙ sym found.1

-- the bytes of a cell are as many as those of any
pub cell_length : (e : Election) (ballots : List Ballot) (bytes numbers : List ℕ) (cell : ℕ) → Shows e ballots bytes numbers → cell < cell_count e → length (cell_at e cell bytes) ≡ cell_size e
cell_length e ballots bytes numbers cell shown within =
    length-take-le (cell_size e) (drop (header_size + cell * cell_size e) bytes)
    (omega (arith, length-drop (header_size + cell * cell_size e) bytes, cell_within e cell within, shown_size e ballots bytes numbers shown))

-- they are the cell of the ballot whose number stands there
pub cell_held : (e : Election) (ballots : List Ballot) (bytes numbers : List ℕ) (cell : ℕ) (b : Ballot) → Shows e ballots bytes numbers → cell < cell_count e
    → ballot_of ballots (get_or (cells_of e ballots) cell 0) ≡ Some b → IsCellOf e (cell_at e cell bytes) b
cell_held e ballots bytes numbers cell b shown within there =
    let held = shown_held e ballots bytes numbers shown in
    let number = get_or (cells_of e ballots) cell 0 in (
      All-contains (IsValid e) ballots b shown.listing.valid (found_in ballots number b there).0,
      ap (cell_at e cell) shown.image ∙ cell_of_image e ballots cell shown.election held within ∙ cell_of_found e ballots number b there,
    )

-- ---- the inside of a store

-- what an image and its cells show is what the store holds
pub shown_by_number : (e : Election) (ballots : List Ballot) (bytes numbers : List ℕ) → Shows e ballots bytes numbers → by_number (spelled_in e numbers (drop header_size bytes)) ≡ by_number ballots
shown_by_number e ballots bytes numbers shown = spelled_by_number e ballots bytes numbers shown.election (shown_held e ballots bytes numbers shown) shown.image shown.cells

-- the same for the ballots in another order
pub shown_anew : (e : Election) (ballots others : List Ballot) (bytes numbers : List ℕ) → IsPermutation ballots others → Shows e ballots bytes numbers → Shows e others bytes numbers
shown_anew e ballots others bytes numbers order shown =
    let held = shown_held e ballots bytes numbers shown in
    let moved = may_hold-IsPermutation e ballots others order held in
    record {
      election = shown.election;
      listing = moved.listing;
      within_limit = moved.within_limit;
      image = shown.image ∙ image_of-IsPermutation e ballots others held.listing.distinct order;
      cells = shown.cells ∙ cells_of-IsPermutation e ballots others order;
    }

pub kept_as : (a : Inside) (ballots : List Ballot) → Shows a.election.value ballots a.image.items a.cells → a.held ≡ length (numbers_in a.cells) → IsKept a
kept_as a ballots shown counted =
    let e = a.election.value in
    let held = shown_held e ballots a.image.items a.cells shown in
    let set = sym (shown_by_number e ballots a.image.items a.cells shown) in
    record {
      stored = subst (λ (bs : List Ballot). IsStored (record { election = e; ballots = bs })) set (stored_by_number e ballots shown.election held);
      shown = subst (λ (bs : List Ballot). Shows e bs a.image.items a.cells) set
          (shown_anew e ballots (by_number ballots) a.image.items a.cells (by_number-IsPermutation ballots) shown);
      counted = counted;
    }

-- ---- counts and order

pub shown_under : (e own : Election) (ballots : List Ballot) (bytes numbers : List ℕ) → e ≡ own → Shows e ballots bytes numbers → Shows own ballots bytes numbers
shown_under e own ballots bytes numbers same shown = subst (λ (e : Election). Shows e ballots bytes numbers) same shown

pub few_cells : (e : Election) → IsElection e → cell_count e ≤ most_cells
few_cells e election =
    let few : 2 ^ e.bits ≤ 2 ^ most_bits = ⊎_elim
    (λ (less : e.bits < most_bits). let below = pow_below e.bits most_bits less in omega arith)
    (λ (most : most_bits ≤ e.bits). let same : e.bits ≡ most_bits = omega (arith, election.few_bits) in omega (arith, ap (λ n. 2 ^ n) same))
    (cases_lt e.bits most_bits) in
    omega (arith, few, election.few_ballots)

-- the numbers of the ballots stand in the cells
shown_in_cells : (e : Election) (ballots : List Ballot) (bytes numbers : List ℕ) → Shows e ballots bytes numbers → IsPermutation (numbers_of ballots) (numbers_in numbers)
shown_in_cells e ballots bytes numbers shown =
    subst (λ (cells : List ℕ). IsPermutation (numbers_of ballots) (numbers_in cells)) (sym shown.cells)
    (numbers_in_layout e ballots shown.election (shown_held e ballots bytes numbers shown))

pub shown_count : (e : Election) (ballots : List Ballot) (bytes numbers : List ℕ) → Shows e ballots bytes numbers → length (numbers_in numbers) ≡ length ballots
shown_count e ballots bytes numbers shown =
    length_permutation _ _ (shown_in_cells e ballots bytes numbers shown) ∙ length-numbers_of ballots

ascending_as_is : (ballots : List Ballot) → Ascend ballots → ascending (numbers_of ballots) ≡ numbers_of ballots
ascending_as_is ballots up =
    let pairs = pairs_of_numbers (λ a b. a < b) ballots up in
    ascending_rising (numbers_of ballots) (λ i j d le lt. ⊎_elim
    (λ (less : i < j). let below = pairs i j d less lt in omega arith)
    (λ (more : j ≤ i). let same : i ≡ j = omega arith in omega (arith, ap (λ k. get_or (numbers_of ballots) k d) same))
    (cases_lt i j))

pub shown_numbers : (e : Election) (ballots : List Ballot) (bytes numbers : List ℕ) → Ascend ballots → Shows e ballots bytes numbers → ascending (numbers_in numbers) ≡ numbers_of ballots
shown_numbers e ballots bytes numbers up shown =
    ascending-IsPermutation (numbers_of ballots) (numbers_in numbers) (shown_in_cells e ballots bytes numbers shown)
    ∙ ascending_as_is ballots up

-- with more ballots as many more cells are filled
pub counted_with : (e : Election) (old more : List Ballot) (bytes numbers now cells : List ℕ) → Shows e old bytes numbers → Shows e (old ++ more) now cells
    → length (numbers_in cells) ≡ length (numbers_in numbers) + length more
counted_with e old more bytes numbers now cells before after =
    let was = length_permutation (numbers_of old) (numbers_in numbers) (shown_in_cells e old bytes numbers before) in
    let is = length_permutation (numbers_of (old ++ more)) (numbers_in cells) (shown_in_cells e (old ++ more) now cells after) in
    omega (arith, was, is, length-numbers_of old, length-numbers_of (old ++ more), length-append old more)

-- a store holds few ballots
pub few_counted : (a : Inside) → IsKept a → a.held ≤ most_ballots
few_counted a kept =
    let own = contents_of a in
    let was = length_permutation (numbers_of own.ballots) (numbers_in a.cells) (shown_in_cells own.election own.ballots a.image.items a.cells kept.shown) in
    omega (arith, kept.counted, was, length-numbers_of own.ballots, kept.stored.within_limit, kept.stored.election.few_ballots)
