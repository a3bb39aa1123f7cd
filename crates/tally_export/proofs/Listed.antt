-- The ballots of a store, listed by their places.
use Rattle.std.proofs.Common.{◌≡◌, ℕ, ◌<◌, List, [], Option, Some, get_or, length, sym, ap, ◌∙◌, arith}
use Rattle.store_spec.proofs.Common.{Ballot, Contains-get_or, ballot_of, cell_count, cells_of, get_or-map, get_or_default, length-map}
use Rattle.ballot_record.proofs.BallotNumbers.{length-numbers_of}
use Rattle.ballot_record.proofs.Lookups.{found_once}
use Rattle.body_store.proofs.BallotSets.{held_layout, may_hold_set}
use Rattle.body_store.specs.Contents.{Contents}
use Rattle.body_store.specs.declared.lookup.Place.{Place}
use Rattle.tally_export.specs.Exported.{IsListed}

abbrev nobody : Ballot
nobody = record { number = 0; style = 0; marks = [] }

-- the cell of the place listed there
abbrev pub cell_at : List Place → ℕ → ℕ
cell_at listed i = (get_or listed i (record { number = 0; cell = 0 })).cell

-- the ballot that is found by the number in that cell
abbrev pub found_at : Contents → List Place → ℕ → Option Ballot
found_at store listed i = ballot_of store.ballots (get_or (cells_of store.election store.ballots) (cell_at listed i) 0)

pub as_many : (store : Contents) (listed : List Place) → IsListed store listed → length listed ≡ length store.ballots
as_many store listed is =
    sym (length-map listed (λ place. place.number)) ∙ ap length is.numbers ∙ length-numbers_of store.ballots

pub cell_within : (store : Contents) (listed : List Place) (i : ℕ) → IsListed store listed → i < length listed
    → cell_at listed i < cell_count store.election
cell_within store listed i is lt =
    let held = may_hold_set store.election store.ballots is.stored.set is.stored.within_limit in
    omega (arith, (is.cells i (record { number = 0; cell = 0 }) lt).0, (held_layout store.election store.ballots is.stored.election held).size)

ballot_found : (store : Contents) (listed : List Place) (i : ℕ) → IsListed store listed → i < length listed
    → found_at store listed i ≡ Some (get_or store.ballots i nobody)
ballot_found store listed i is lt =
    let held = may_hold_set store.election store.ballots is.stored.set is.stored.within_limit in
    let within : i < length store.ballots = omega (arith, lt, as_many store listed is) in
    let place : Place = record { number = 0; cell = 0 } in
    let number : get_or (cells_of store.election store.ballots) (cell_at listed i) 0 ≡ (get_or store.ballots i nobody).number =
    (is.cells i place lt).1
    ∙ sym (get_or-map (λ (place : Place). place.number) listed i place 0 lt)
    ∙ ap (λ ns. get_or ns i 0) is.numbers
    ∙ get_or-map (λ (b : Ballot). b.number) store.ballots i nobody 0 within in
    found_once store.ballots (get_or (cells_of store.election store.ballots) (cell_at listed i) 0) (get_or store.ballots i nobody)
    held.listing.distinct (Contains-get_or store.ballots i nobody within) (sym number)

-- what is found there is the next ballot
pub next_found : (store : Contents) (listed : List Place) (i : ℕ) → IsListed store listed → i < length listed
    → (b : Ballot) × (found_at store listed i ≡ Some b) × (i < length store.ballots) × (get_or store.ballots i b ≡ b)
next_found store listed i is lt =
    let b = get_or store.ballots i nobody in
    let within : i < length store.ballots = omega (arith, lt, as_many store listed is) in
    (b, ballot_found store listed i is lt, within, get_or_default store.ballots i b nobody within)
