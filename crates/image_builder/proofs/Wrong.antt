-- Why a cell begins the image of no set, and what a whole bank is the image of.
use Rattle.std.proofs.Common.{◌≡◌, ◌≢◌, not, ℕ, suc, ◌+◌, ◌*◌, ◌^◌, ◌<◌, ◌≤◌, ⊎_elim, List, [], ◌∷◌, ◌++◌, length, get_or, take, drop, replicate, None, refl, sym, ap, subst, ◌∙◌, arith, zero-add}
use Rattle.store_spec.proofs.Common.{All-contains, Ballot, BeginsAnImage, Election, IsElection, IsLayout, IsValid, MayStand, ballot_bytes, ballot_of, cases_eq, cell_at, cell_bytes, cell_count, cell_size, cells_of, cond-false, cond-true, eq-eqb, flat_map, get_or-take, header_of, header_size, home_in, image_of, length-drop, length-take, ne_eqb, number_at, numbers_in, numbers_of, take-append-drop, take_all, take_more}
use Rattle.body_store.proofs.BallotSets.{MayHold, has_room, may_hold_set}
use Rattle.body_store.proofs.Images.{length_pieces, length-cell_bytes, cell_of_found, cell_of_none, one_cell_more}
use Rattle.ballot_record.proofs.Lookups.{option_cases, found_in}
use Rattle.image_builder.proofs.Reading.{AreRead, IsKnown, begins_fewer, begins_read, front_of_image, front_read, layout_read, number_in_cell, piece_more, same_numbers, listing_read, split_same}
use Rattle.image_builder.proofs.Steps.{known_read}
use Rattle.layout_def.proofs.Ascending.{length-ascending}
use Rattle.ballot_record.proofs.BallotNumbers.{length-numbers_of}
use Rattle.layout_def.proofs.LaidOut.{layout_of_laid_out}
use Rattle.layout_def.proofs.OrderedCells.{contains_from_place, place_within}
use Rattle.layout_def.proofs.Placing.{filled}
use Rattle.store_spec.specs.Damage.{IsFirstWrong}
use Rattle.ballot_record.proofs.CellFormat.{number_of_bytes}

-- the bank begins the image of this set, which goes on with one cell more
record GoesOn (e : Election) (bank : List ℕ) (place : ℕ) (numbers : List ℕ) (ballots : List Ballot) : Type 0 where
  held : MayHold e ballots
  layout : IsLayout (home_in e) (cell_count e) (numbers_of ballots) (cells_of e ballots)
  front : numbers ≡ take place (cells_of e ballots)
  next : cell_at e place bank ≡ cell_bytes e ballots (get_or (cells_of e ballots) place 0)

pub known_cell : (e : Election) (ballots : List Ballot) (place : ℕ) → IsLayout (home_in e) (cell_count e) (numbers_of ballots) (cells_of e ballots) → IsKnown ballots (get_or (cells_of e ballots) place 0)
known_cell e ballots place layout n =
    let cells = cells_of e ballots in
    layout.exactly.only (get_or cells place 0) n (contains_from_place cells (get_or cells place 0) place (place_within cells place n) refl)

goes_on : (e : Election) (bank : List ℕ) (place : ℕ) (numbers : List ℕ) (ballots : List Ballot) → IsElection e → place < cell_count e → AreRead e bank place numbers ballots
    → (begins : BeginsAnImage e (place + 1) bank) → GoesOn e bank place numbers begins.0
goes_on e bank place numbers ballots election lt read begins =
    let own = begins.0 in
    let held = may_hold_set e own begins.1 begins.2 in
    let layout = layout_read e own election held in
    let cells = cells_of e own in
    let size = cell_size e in
    let f = cell_bytes e ballots in
    let g = cell_bytes e own in
    let width_f = λ (x : ℕ). length-cell_bytes e ballots x election read.valid in
    let width_g = λ (x : ℕ). length-cell_bytes e own x election held.listing.valid in
    let short : length (take place cells) ≡ place = omega (arith, length-take place cells, layout.size) in
    let all : flat_map f numbers ++ cell_at e place bank ≡ flat_map g (take place cells) ++ g (get_or cells place 0) =
    ap (λ bytes. bytes ++ cell_at e place bank) (sym read.bytes)
    ∙ sym (one_cell_more e place bank)
    ∙ begins.3
    ∙ front_of_image e own (place + 1) election held.listing.valid (omega (arith, layout.size))
    ∙ ap (flat_map g) (take_more cells place 0 (omega (arith, layout.size)))
    ∙ piece_more g (take place cells) (get_or cells place 0) in
    let long : length (flat_map f numbers) ≡ length (flat_map g (take place cells)) =
    length_pieces f size numbers width_f ∙ ap (λ k. k * size) (read.size ∙ sym short) ∙ sym (length_pieces g size (take place cells) width_g) in
    let parts = split_same (flat_map f numbers) (flat_map g (take place cells)) (cell_at e place bank) (g (get_or cells place 0)) long all in
    record {
      held = held;
      layout = layout;
      front = same_numbers f g numbers (take place cells) (read.size ∙ sym short) (λ x y. width_f x ∙ sym (width_g y))
          (λ i lt. number_in_cell e ballots (get_or numbers i 0) read.valid (known_read e bank place numbers ballots read i lt))
          (λ i lt.
          let same = get_or-take place cells i 0 (omega (arith, short)) in
          subst (λ (v : ℕ). number_at (g v) ≡ v) (sym same) (number_in_cell e own (get_or cells i 0) held.listing.valid (known_cell e own i layout)))
          parts.0;
      next = parts.1;
    }

-- ---- the reasons

-- the bytes are those of no cell
pub bad_bytes : (e : Election) (bank : List ℕ) (place : ℕ) (numbers : List ℕ) (ballots : List Ballot) → IsElection e → place < cell_count e → AreRead e bank place numbers ballots
    → cell_at e place bank ≢ replicate (cell_size e) 0 → ((b : Ballot) → IsValid e b → cell_at e place bank ≢ ballot_bytes e b) → ¬ BeginsAnImage e (place + 1) bank
bad_bytes e bank place numbers ballots election lt read not_empty not_held begins =
    let goes = goes_on e bank place numbers ballots election lt read begins in
    let v = get_or (cells_of e begins.0) place 0 in
    ⊎_elim
    (λ (none : ballot_of begins.0 v ≡ None). not_empty (goes.next ∙ cell_of_none e begins.0 v none))
    (λ some.
    let found = found_in begins.0 v some.0 some.1 in
    not_held some.0 (All-contains (IsValid e) begins.0 some.0 goes.held.listing.valid found.0) (goes.next ∙ cell_of_found e begins.0 v some.0 some.1))
    (option_cases (ballot_of begins.0 v))

-- the number of a cell whose bytes are a ballot's
next_number : (e : Election) (bank : List ℕ) (place : ℕ) (numbers : List ℕ) (ballots : List Ballot) (b : Ballot) → GoesOn e bank place numbers ballots → IsValid e b → cell_at e place bank ≡ ballot_bytes e b → get_or (cells_of e ballots) place 0 ≡ b.number
next_number e bank place numbers ballots b goes valid is =
    let v = get_or (cells_of e ballots) place 0 in
    sym (number_in_cell e ballots v goes.held.listing.valid (known_cell e ballots place goes.layout)) ∙ ap number_at (sym goes.next ∙ is) ∙ number_of_bytes e b valid.short_number

-- the ballot may not stand there
pub misplaced : (e : Election) (bank : List ℕ) (place : ℕ) (numbers : List ℕ) (ballots : List Ballot) (b : Ballot) → IsElection e → place < cell_count e → AreRead e bank place numbers ballots
    → IsValid e b → cell_at e place bank ≡ ballot_bytes e b → ¬ MayStand (home_in e) numbers b.number place → ¬ BeginsAnImage e (place + 1) bank
misplaced e bank place numbers ballots b election lt read valid is may_not begins =
    let goes = goes_on e bank place numbers ballots election lt read begins in
    let cells = cells_of e begins.0 in
    let same = next_number e bank place numbers begins.0 b goes valid is in
    let some : get_or cells place 0 ≢ 0 = (λ z. omega (arith, valid.some_number)) in
    may_not (record {
      from_home = subst (λ (w : ℕ). home_in e w ≤ place) same (goes.layout.ordered.from_home place some);
      greater_before = λ before from less.
          let more = goes.layout.ordered.greater_before place before some (subst (λ (w : ℕ). home_in e w ≤ before) (sym same) from) less in
          let there : get_or numbers before 0 ≡ get_or cells before 0 = ap (λ ns. get_or ns before 0) goes.front ∙ get_or-take place cells before 0 less in
          omega arith;
    })

-- ---- how many ballots

filled-numbers_in : (cells : List ℕ) → length (numbers_in cells) ≡ filled cells
filled-numbers_in [] = refl
filled-numbers_in (cell ∷ cells) = ⊎_elim
    (λ (e : cell ≡ 0). ap length (cond-false _ _ _ (ap not (eq-eqb cell 0 e))) ∙ filled-numbers_in cells ∙ sym (cond-true _ _ _ (eq-eqb cell 0 e)))
    (λ (n : cell ≢ 0). ap length (cond-true _ _ _ (ap not (ne_eqb cell 0 n))) ∙ ap suc (filled-numbers_in cells) ∙ sym (cond-false _ _ _ (ne_eqb cell 0 n)))
    (cases_eq cell 0)

filled-append : (xs ys : List ℕ) → filled (xs ++ ys) ≡ filled xs + filled ys
filled-append [] ys = sym (zero-add (filled ys))
filled-append (x ∷ xs) ys = ⊎_elim
    (λ (e : x ≡ 0).
    let left : filled (x ∷ (xs ++ ys)) ≡ filled (xs ++ ys) = cond-true _ _ _ (eq-eqb x 0 e) in
    let right : filled (x ∷ xs) ≡ filled xs = cond-true _ _ _ (eq-eqb x 0 e) in
    omega (arith, left, right, filled-append xs ys))
    (λ (n : x ≢ 0).
    let left : filled (x ∷ (xs ++ ys)) ≡ suc (filled (xs ++ ys)) = cond-false _ _ _ (ne_eqb x 0 n) in
    let right : filled (x ∷ xs) ≡ suc (filled xs) = cond-false _ _ _ (ne_eqb x 0 n) in
    omega (arith, left, right, filled-append xs ys))
    (cases_eq x 0)

filled_one : (v : ℕ) → v ≢ 0 → filled (v ∷ []) ≡ 1
filled_one v n = cond-false _ _ _ (ne_eqb v 0 n)

-- there are as many ballots already as there may be
pub too_many : (e : Election) (bank : List ℕ) (place : ℕ) (numbers : List ℕ) (ballots : List Ballot) (b : Ballot) → IsElection e → place < cell_count e → AreRead e bank place numbers ballots
    → IsValid e b → cell_at e place bank ≡ ballot_bytes e b → e.limit ≤ length ballots → ¬ BeginsAnImage e (place + 1) bank
too_many e bank place numbers ballots b election lt read valid is full begins =
    let own = begins.0 in
    let goes = goes_on e bank place numbers ballots election lt read begins in
    let cells = cells_of e own in
    let same = next_number e bank place numbers own b goes valid is in
    let some : get_or cells place 0 ≢ 0 = (λ z. omega (arith, valid.some_number)) in
    let laid = layout_of_laid_out (home_in e) (2 ^ e.bits) (cell_count e) (numbers_of own) (has_room e own election goes.held) in
    let most : filled cells ≤ length own = omega (arith, laid.few, length-ascending (numbers_of own), length-numbers_of own) in
    let whole : filled cells ≡ filled (take (place + 1) cells) + filled (drop (place + 1) cells) =
    ap filled (sym (take-append-drop (place + 1) cells)) ∙ filled-append (take (place + 1) cells) (drop (place + 1) cells) in
    let front : filled (take (place + 1) cells) ≡ filled numbers + 1 =
    ap filled (take_more cells place 0 (omega (arith, goes.layout.size)) ∙ ap (λ ns. ns ++ get_or cells place 0 ∷ []) (sym goes.front))
    ∙ filled-append numbers (get_or cells place 0 ∷ []) ∙ ap (λ k. filled numbers + k) (filled_one (get_or cells place 0) some) in
    let count : filled numbers ≡ length ballots = sym (filled-numbers_in numbers) ∙ ap length (sym read.same) ∙ length-numbers_of ballots in
    omega (arith, goes.held.within_limit)

-- ---- a bank that is read whole

pub whole_bank : (e : Election) (bank numbers : List ℕ) (ballots : List Ballot) → IsElection e → length bank ≡ header_size + cell_count e * cell_size e → take header_size bank ≡ header_of e → AreRead e bank (cell_count e) numbers ballots → bank ≡ image_of e ballots
whole_bank e bank numbers ballots election long header read =
    let layout = layout_read e ballots election (listing_read e bank (cell_count e) numbers ballots read) in
    let cells : numbers ≡ cells_of e ballots =
    sym (front_read e bank (cell_count e) numbers ballots election (omega arith) read) ∙ take_all (cell_count e) (cells_of e ballots) (omega (arith, layout.size)) in
    sym (take-append-drop header_size bank)
    ∙ ap (λ bytes. bytes ++ drop header_size bank) header
    ∙ ap (λ bytes. header_of e ++ bytes)
    (sym (take_all (cell_count e * cell_size e) (drop header_size bank) (omega (arith, length-drop header_size bank))) ∙ read.bytes ∙ ap (flat_map (cell_bytes e ballots)) cells)

-- the first cell that is wrong for one of these reasons
pub first_wrong : (e : Election) (bank : List ℕ) (place : ℕ) (numbers : List ℕ) (ballots : List Ballot) → IsElection e → place < cell_count e → AreRead e bank place numbers ballots → ¬ BeginsAnImage e (place + 1) bank → IsFirstWrong e bank place
first_wrong e bank place numbers ballots election lt read wrong = record {
  within = lt;
  wrong = wrong;
  least = λ before less. begins_fewer e (before + 1) place bank (omega arith) (begins_read e bank place numbers ballots election (omega arith) read);
}

-- the same lists under other names
pub read_as : (e : Election) (bank : List ℕ) (place : ℕ) (numbers numbers_now : List ℕ) (ballots ballots_now : List Ballot) → AreRead e bank place numbers ballots → numbers_now ≡ numbers → ballots_now ≡ ballots → AreRead e bank place numbers_now ballots_now
read_as e bank place numbers numbers_now ballots ballots_now read same_numbers same_ballots =
    subst (λ (ns : List ℕ). AreRead e bank place ns ballots_now) (sym same_numbers) (subst (λ (bs : List Ballot). AreRead e bank place numbers bs) (sym same_ballots) read)

-- the end of the same list under another name
pub stands_behind : (home : ℕ → ℕ) (cells numbers : List ℕ) (v place : ℕ) → cells ≡ numbers → length numbers ≡ place → MayStand home numbers v place → MayStand home cells v (length cells)
stands_behind home cells numbers v place same size may =
    subst (λ (ns : List ℕ). MayStand home ns v (length ns)) (sym same) (subst (λ (p : ℕ). MayStand home numbers v p) (sym size) may)

pub stands_at : (home : ℕ → ℕ) (cells numbers : List ℕ) (v place : ℕ) → cells ≡ numbers → length numbers ≡ place → MayStand home cells v (length cells) → MayStand home numbers v place
stands_at home cells numbers v place same size may =
    subst (λ (p : ℕ). MayStand home numbers v p) size (subst (λ (ns : List ℕ). MayStand home ns v (length ns)) same may)
