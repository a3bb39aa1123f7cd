-- What a close makes of an image: each cell gets the bytes of its number among all ballots of before and after.
use Rattle.std.proofs.Common.{◌≡◌, ◌≢◌, ◌⊎◌, inl, inr, ⊎_elim, ℕ, ◌<◌, List, [], ◌++◌, length, get_or, take, replicate, refl, sym, ap, subst, ◌∙◌, arith}
use Rattle.store_spec.proofs.Common.{All, All-contains, All-contains_itself, All-filter, Ballot, Contains, Contains-append_cases, Contains-append_left, Contains-append_right, Contains-get_or, Election, IsElection, IsListing, IsOrdered, IsPermutation, IsPermutation-sym, IsValid, IsWithinLimit, ballot_bytes, cases_eq, cell_at, cell_bytes, cell_count, cell_size, cells_of, header_size, home_in, length-append, numbers_of}
use Rattle.ballot_record.proofs.BallotNumbers.{ballot_with, contains_number}
use Rattle.ballot_record.proofs.Lookups.{AreAmong, found_once}
use Rattle.body_store.proofs.BallotSets.{MayHold, cells_of-IsPermutation, held_layout, may_hold-IsPermutation, may_hold_without}
use Rattle.body_store.proofs.Images.{cell_of_found, cell_of_image, cell_of_zero, image_from_cells, length-cell_bytes}
use Rattle.body_store.proofs.Keeping.{shown_header, shown_held, shown_layout, shown_size}
use Rattle.body_store.proofs.Spelled.{ballot_known, held_of_some, known_in_layout}
use Rattle.body_store.specs.Closing.{Change, IsClose}
use Rattle.body_store.specs.Contents.{ballots_without}
use Rattle.body_store.specs.Held.{Shows, held_in}

pub all_held : (e : Election) (more : List Ballot) (change : Change) → IsClose e more change → MayHold e change.all
all_held e more change close = record { listing = close.all_listing; within_limit = close.all_within_limit }

pub rest_held : (e : Election) (more : List Ballot) (change : Change) → IsClose e more change → MayHold e change.rest
rest_held e more change close = record { listing = close.rest_listing; within_limit = close.rest_within_limit }

-- ballots that are among others have the same cells there
same_cell : (e : Election) (some all : List Ballot) (number : ℕ) → MayHold e all → AreAmong some all → All (IsValid e) some → (number ≢ 0 → Contains (numbers_of some) number)
    → cell_bytes e some number ≡ cell_bytes e all number
same_cell e some all number held among valid known = ⊎_elim
    (λ (none : number ≡ 0).
    ap (cell_bytes e some) none ∙ cell_of_zero e e some valid ∙ sym (ap (cell_bytes e all) none ∙ cell_of_zero e e all held.listing.valid))
    (λ (other : number ≢ 0).
    let b = ballot_known some number (known other) in
    cell_of_found e some number b.0 b.1 ∙ sym (cell_of_found e all number b.0 (found_once all number b.0 held.listing.distinct (among b.0 b.2) b.3)))
    (cases_eq number 0)

pub each_wide : (e : Election) (more : List Ballot) (change : Change) → IsClose e more change → (number : ℕ) → length (cell_bytes e change.all number) ≡ cell_size e
each_wide e more change close number = length-cell_bytes e change.all number close.election close.all_listing.valid

pub empty_blank : (e : Election) (more : List Ballot) (change : Change) → IsClose e more change → cell_bytes e change.all 0 ≡ replicate (cell_size e) 0
empty_blank e more change close = cell_of_zero e e change.all close.all_listing.valid

pub new_in_cells : (e : Election) (more : List Ballot) (change : Change) → IsClose e more change → All (λ b. IsValid e b × (ballot_bytes e b ≡ cell_bytes e change.all b.number)) more
new_in_cells e more change close k d lt =
    let b = get_or more k d in
    let there = close.more_among b (Contains-get_or more k d lt) in (
      All-contains (IsValid e) change.all b close.all_listing.valid there,
      sym (cell_of_found e change.all b.number b (found_once change.all b.number b close.all_listing.distinct there refl)),
    )

pub cells_before : (e : Election) (more : List Ballot) (change : Change) (bytes numbers : List ℕ) → IsClose e more change → Shows e change.old bytes numbers → (cell : ℕ) → cell < cell_count e
    → cell_at e cell bytes ≡ cell_bytes e change.all (get_or numbers cell 0)
cells_before e more change bytes numbers close shown cell within =
    let held = shown_held e change.old bytes numbers shown in
    ap (cell_at e cell) shown.image
    ∙ cell_of_image e change.old cell close.election held within
    ∙ same_cell e change.old change.all (get_or (cells_of e change.old) cell 0) (all_held e more change close) close.old_among held.listing.valid (known_in_layout e change.old close.election held cell)
    ∙ ap (λ ns. cell_bytes e change.all (get_or ns cell 0)) (sym shown.cells)

-- each number of after stood before, or is new
pub number_from : (e : Election) (more : List Ballot) (change : Change) (bytes numbers cells : List ℕ) → IsClose e more change → Shows e change.old bytes numbers → cells ≡ cells_of e change.rest
    → (cell : ℕ) → get_or cells cell 0 ≢ 0 → Contains numbers (get_or cells cell 0) ⊎ Contains (numbers_of more) (get_or cells cell 0)
number_from e more change bytes numbers cells close shown laid cell some =
    let v = get_or cells cell 0 in
    let same : get_or (cells_of e change.rest) cell 0 ≡ v = ap (λ ns. get_or ns cell 0) (sym laid) in
    let known = subst (λ (n : ℕ). Contains (numbers_of change.rest) n) same (known_in_layout e change.rest close.election (rest_held e more change close) cell (λ z. some (sym same ∙ z))) in
    let b = ballot_with change.rest v known in
    ⊎_elim
    (λ before. inl ((shown_layout e change.old bytes numbers shown).exactly.each v (contains_number change.old b.0 v before b.2)))
    (λ new. inr (contains_number more b.0 v new b.2))
    (close.from b.0 b.1)

pub laid_ordered : (e : Election) (rest : List Ballot) (cells : List ℕ) → IsElection e → MayHold e rest → cells ≡ cells_of e rest → IsOrdered (home_in e) cells
laid_ordered e rest cells election held laid = subst (λ (ns : List ℕ). IsOrdered (home_in e) ns) (sym laid) (held_layout e rest election held).ordered

pub laid_size : (e : Election) (rest : List Ballot) (cells : List ℕ) → IsElection e → MayHold e rest → cells ≡ cells_of e rest → length cells ≡ cell_count e
laid_size e rest cells election held laid = ap length laid ∙ (held_layout e rest election held).size

-- once each cell has the bytes of its number, the image is that of the ballots of after
pub relaid : (e : Election) (more : List Ballot) (change : Change) (bytes numbers now cells : List ℕ) → IsClose e more change → Shows e change.old bytes numbers → cells ≡ cells_of e change.rest
    → ((cell : ℕ) → cell < length cells → cell_at e cell now ≡ cell_bytes e change.all (get_or cells cell 0)) → take header_size now ≡ take header_size bytes → length now ≡ length bytes → Shows e change.rest now cells
relaid e more change bytes numbers now cells close shown laid each header long =
    let held = rest_held e more change close in
    record {
      election = close.election;
      listing = held.listing;
      within_limit = held.within_limit;
      image = image_from_cells e change.rest now close.election held (long ∙ shown_size e change.old bytes numbers shown) (header ∙ shown_header e change.old bytes numbers shown)
          (λ cell within.
          each cell (omega (arith, within, laid_size e change.rest cells close.election held laid))
          ∙ ap (λ ns. cell_bytes e change.all (get_or ns cell 0)) laid
          ∙ sym (same_cell e change.rest change.all (get_or (cells_of e change.rest) cell 0) (all_held e more change close) close.rest_among held.listing.valid (known_in_layout e change.rest close.election held cell)));
      cells = laid;
    }

-- ---- the two kinds of close

-- new ballots come to those of before
pub merge_closes : (e : Election) (old more : List Ballot) → IsElection e → IsListing e (old ++ more) → IsWithinLimit e (old ++ more) → IsClose e more (record { old = old; all = old ++ more; rest = old ++ more })
merge_closes e old more election listing few = record {
  election = election;
  all_listing = listing;
  all_within_limit = few;
  rest_listing = listing;
  rest_within_limit = few;
  old_among = Contains-append_left old more;
  more_among = Contains-append_right old more;
  rest_among = λ b c. c;
  few = omega (arith, few, length-append old more, election.few_ballots);
  from = Contains-append_cases old more;
}

-- ballots go from those of before
pub without_closes : (e : Election) (old rest : List Ballot) → IsElection e → MayHold e old → MayHold e rest → AreAmong rest old → IsClose e [] (record { old = old; all = old; rest = rest })
without_closes e old rest election held rest_held among = record {
  election = election;
  all_listing = held.listing;
  all_within_limit = held.within_limit;
  rest_listing = rest_held.listing;
  rest_within_limit = rest_held.within_limit;
  old_among = λ b c. c;
  more_among = λ b c. absurd (omega (arith, c.1));
  rest_among = among;
  few = omega arith;
  from = λ b c. inl (among b c);
}

-- what stays of those of before, by the cells where it stands
pub record IsRest (e : Election) (old : List Ballot) (gone cells : List ℕ) : Type 0 where
  pub held : MayHold e (held_in old cells)
  pub same : IsPermutation (held_in old cells) (ballots_without old gone)
  pub laid : cells ≡ cells_of e (held_in old cells)

pub rest_is : (e : Election) (old : List Ballot) (gone cells : List ℕ) → IsElection e → MayHold e old → cells ≡ cells_of e (ballots_without old gone) → IsRest e old gone cells
rest_is e old gone cells election held laid =
    let rest = ballots_without old gone in
    let left = may_hold_without e old gone held in
    let among : AreAmong rest old = λ b. All-contains (Contains old) rest b (All-filter _ (Contains old) old (All-contains_itself old)) in
    let there : IsPermutation rest (held_in old cells) = subst (λ (ns : List ℕ). IsPermutation rest (held_in old ns)) (sym laid) (held_of_some e old rest election held left among) in
    record {
      held = may_hold-IsPermutation e rest (held_in old cells) there left;
      same = IsPermutation-sym rest (held_in old cells) there;
      laid = laid ∙ cells_of-IsPermutation e rest (held_in old cells) there;
    }
