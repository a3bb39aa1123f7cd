-- The bytes of new ballots, which wait one behind another.
use Rattle.std.proofs.Common.{◌≡◌, ℕ, ◌+◌, ◌*◌, ◌<◌, List, [], Some, inl, length, get_or, take, drop, sym, ap, ◌∙◌, arith}
use Rattle.store_spec.proofs.Common.{All, Ballot, IsValid, ballot_bytes, cell_size, numbers_of, slice_get-get_or}
use Rattle.std.specs.List.{slice_get}
use Rattle.ballot_record.proofs.BallotLists.{cell_at_place, cell_within, holds_at_place, length-cells, number_at_place}
use Rattle.body_store.specs.Moves.{AreArrivals, Arrivals, StandsFrom, WaitsIn, arriving_bytes}

nobody : Ballot
nobody = record { number = 0; style = 0; marks = [] }

pub all_valid : (new : Arrivals) → AreArrivals new → All (IsValid new.election) new.ballots
all_valid new are = λ k d lt. (are.each k d lt).0

-- so many they are
pub length-front : (new : Arrivals) → AreArrivals new → length (arriving_bytes new) ≡ length new.ballots * cell_size new.election
length-front new are = length-cells new.election new.ballots are.election (all_valid new are)

-- those of the ballot at a place wait there
pub new_waits : (new : Arrivals) (place : ℕ) (behind : List ℕ) → AreArrivals new → place < length new.ballots
    → WaitsIn new.bytes_of (arriving_bytes new) behind place (get_or (numbers_of new.ballots) place 0)
new_waits new place behind are within =
    let e = new.election in
    let ballots = new.ballots in
    let f = new.bytes_of in
    let n = get_or (numbers_of ballots) place 0 in
    let b = get_or ballots place nobody in
    let there : slice_get ballots place ≡ Some b = slice_get-get_or ballots place nobody within in
    let own = holds_at_place (λ b. IsValid e b × (ballot_bytes e b ≡ f b.number)) ballots place b are.each there in
    let bytes : f n ≡ ballot_bytes e b = ap f (number_at_place ballots place b there) ∙ sym own.1 in
    let wide = are.wide n in
    let all = arriving_bytes new in
    inl (record {
      within = omega (arith, cell_within place (length ballots) (cell_size e) within, ap (λ size. place * size + size) wide, length-front new are);
      same =
          ap (λ size. take size (drop (place * size) all)) wide
          ∙ cell_at_place e ballots place b are.election (all_valid new are) there
          ∙ sym bytes;
    })

-- no number of theirs is 0
pub number_some : (new : Arrivals) (place : ℕ) → AreArrivals new → place < length new.ballots → get_or (numbers_of new.ballots) place 0 ≡ 0 → ⊥
number_some new place are within none =
    let b = get_or new.ballots place nobody in
    let there : slice_get new.ballots place ≡ Some b = slice_get-get_or new.ballots place nobody within in
    omega (arith, (holds_at_place (IsValid new.election) new.ballots place b (all_valid new are) there).some_number, number_at_place new.ballots place b there, none)

-- the number at a place of a list that stands among others
pub same_number : (first place : ℕ) (some all : List Ballot) → StandsFrom first some all → place < length some
    → get_or (numbers_of some) place 0 ≡ get_or (numbers_of all) (first + place) 0
same_number first place some all here within =
    let b = get_or some place nobody in
    let there : slice_get some place ≡ Some b = slice_get-get_or some place nobody within in
    number_at_place some place b there ∙ sym (number_at_place all (first + place) b (here.each place within ∙ there))
