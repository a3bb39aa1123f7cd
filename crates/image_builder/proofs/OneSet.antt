-- An image is that of one set of ballots alone.
use Rattle.std.proofs.Common.{◌≡◌, ◌*◌, ◌<◌, List, length, get_or, take, drop, refl, sym, ap, subst, ◌∙◌, arith}
use Rattle.store_spec.proofs.Common.{All-contains, Ballot, Contains, Election, IsBallotSet, IsElection, IsValid, IsWithinLimit, ballot_bytes, cell_bytes, cell_size, cells_of, drop_at, flat_map, header_of, header_size, image_of, numbers_of}
use Rattle.body_store.proofs.BallotSets.{MayHold, may_hold_set}
use Rattle.body_store.proofs.Images.{cell_of_found, length-cell_bytes, piece_at}
use Rattle.ballot_record.proofs.BallotSets.{same_members}
use Rattle.ballot_record.proofs.BallotNumbers.{ballot_with, contains_number}
use Rattle.ballot_record.proofs.Lookups.{found_once}
use Rattle.image_builder.proofs.Reading.{layout_read, number_in_cell, same_numbers}
use Rattle.image_builder.proofs.Wrong.{known_cell}
use Rattle.layout_def.proofs.OrderedCells.{place_from_contains, contains_from_place}
use Rattle.ballot_record.proofs.CellFormat.{length-header_of, same_ballot}

-- ---- the sets of one image

same_cells : (e : Election) (xs ys : List Ballot) → IsElection e → MayHold e xs → MayHold e ys → flat_map (cell_bytes e xs) (cells_of e xs) ≡ flat_map (cell_bytes e ys) (cells_of e ys) → cells_of e xs ≡ cells_of e ys
same_cells e xs ys election set_x set_y same =
    let layout_x = layout_read e xs election set_x in
    let layout_y = layout_read e ys election set_y in
    same_numbers (cell_bytes e xs) (cell_bytes e ys) (cells_of e xs) (cells_of e ys) (layout_x.size ∙ sym layout_y.size)
    (λ x y. length-cell_bytes e xs x election set_x.listing.valid ∙ sym (length-cell_bytes e ys y election set_y.listing.valid))
    (λ i lt. number_in_cell e xs (get_or (cells_of e xs) i 0) set_x.listing.valid (known_cell e xs i layout_x))
    (λ i lt. number_in_cell e ys (get_or (cells_of e ys) i 0) set_y.listing.valid (known_cell e ys i layout_y))
    same

-- a ballot of one set is in the other
in_other : (e : Election) (xs ys : List Ballot) → IsElection e → MayHold e xs → MayHold e ys → flat_map (cell_bytes e xs) (cells_of e xs) ≡ flat_map (cell_bytes e ys) (cells_of e ys) → (b : Ballot) → Contains xs b → Contains ys b
in_other e xs ys election set_x set_y same b c =
    let f = cell_bytes e xs in
    let g = cell_bytes e ys in
    let size = cell_size e in
    let layout_x = layout_read e xs election set_x in
    let layout_y = layout_read e ys election set_y in
    let valid = All-contains (IsValid e) xs b set_x.listing.valid c in
    let cells : cells_of e xs ≡ cells_of e ys = same_cells e xs ys election set_x set_y same in
    let place = place_from_contains (cells_of e xs) b.number (layout_x.exactly.each b.number (contains_number xs b b.number c refl)) in
    let at : get_or (cells_of e ys) place.0 0 ≡ b.number = ap (λ ns. get_or ns place.0 0) (sym cells) ∙ place.2 in
    let there : place.0 < length (cells_of e ys) = omega (arith, place.1, ap length cells) in
    let number : Contains (numbers_of ys) b.number = layout_y.exactly.only b.number (λ z. omega (arith, valid.some_number)) (contains_from_place (cells_of e ys) b.number place.0 there at) in
    let other = ballot_with ys b.number number in
    let valid_other = All-contains (IsValid e) ys other.0 set_y.listing.valid other.1 in
    let left : f b.number ≡ ballot_bytes e b = cell_of_found e xs b.number b (found_once xs b.number b set_x.listing.distinct c refl) in
    let right : g b.number ≡ ballot_bytes e other.0 = cell_of_found e ys b.number other.0 (found_once ys b.number other.0 set_y.listing.distinct other.1 other.2) in
    let bytes : f b.number ≡ g b.number =
    ap f (sym place.2)
    ∙ sym (piece_at f size (cells_of e xs) place.0 (λ x. length-cell_bytes e xs x election set_x.listing.valid) place.1)
    ∙ ap (λ bytes. take size (drop (place.0 * size) bytes)) same
    ∙ piece_at g size (cells_of e ys) place.0 (λ x. length-cell_bytes e ys x election set_y.listing.valid) there
    ∙ ap g at in
    let is : b ≡ other.0 =
    same_ballot e b other.0 election valid valid_other (sym left ∙ bytes ∙ right) in
    subst (λ (x : Ballot). Contains ys x) (sym is) other.1

pub one_set : (e : Election) (xs ys : List Ballot) → IsElection e → IsBallotSet e xs → IsWithinLimit e xs → IsBallotSet e ys → IsWithinLimit e ys → image_of e xs ≡ image_of e ys → xs ≡ ys
one_set e xs ys election set_x few_x set_y few_y same =
    let held_x = may_hold_set e xs set_x few_x in
    let held_y = may_hold_set e ys set_y few_y in
    let bytes_x = flat_map (cell_bytes e xs) (cells_of e xs) in
    let bytes_y = flat_map (cell_bytes e ys) (cells_of e ys) in
    let cells : bytes_x ≡ bytes_y = sym (drop_at (header_of e) bytes_x header_size (length-header_of e)) ∙ ap (drop header_size) same ∙ drop_at (header_of e) bytes_y header_size (length-header_of e) in
    same_members xs ys set_x.ascending set_y.ascending (in_other e xs ys election held_x held_y cells) (in_other e ys xs election held_y held_x (sym cells))
