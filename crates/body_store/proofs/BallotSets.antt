-- Sets of ballots: their layout, and what a store may hold.
use Rattle.std.proofs.Common.{◌≡◌, ◌≢◌, ◌==◌, ◌^◌, ℕ, ◌<◌, not, List, sym, ap, arith}
use Rattle.store_spec.proofs.Common.{All-filter, All-map, All-weaker, AllPairs-filter, Ballot, Election, HasRoom, IsBallotSet, IsElection, IsLayout, IsListing, IsPermutation, IsPermutation-map, IsValid, IsWithinLimit, cell_count, cells_of, count_by-le-length, home_in, laid_out, length-filter, length_permutation, list_any, numbers_of}
use Rattle.ballot_record.proofs.BallotNumbers.{length-numbers_of, pairs_of_numbers}
use Rattle.ballot_record.proofs.BallotSets.{listing-IsPermutation, listing_from_set}
use Rattle.body_store.proofs.ByNumber.{by_number-IsPermutation, by_number-ascends}
use Rattle.body_store.specs.ByNumber.{AreNumbered, by_number}
use Rattle.body_store.specs.Contents.{Contents, IsStored, ballots_without}
use Rattle.probe_order.specs.Below.{home_of-lt}
use Rattle.layout_def.proofs.Ascending.{ascending-IsPermutation}
use Rattle.layout_def.proofs.LaidOut.{layout_of_is}

-- a listing of a set that the election's store may hold
pub record MayHold (e : Election) (ballots : List Ballot) : Type 0 where
  pub listing : IsListing e ballots
  pub within_limit : IsWithinLimit e ballots

pub may_hold_set : (e : Election) (ballots : List Ballot) → IsBallotSet e ballots → IsWithinLimit e ballots
    → MayHold e ballots
may_hold_set e ballots set few = record { listing = listing_from_set e ballots set; within_limit = few }

-- the cells of an election have room for each of its sets, however it is listed
pub has_room : (e : Election) (ballots : List Ballot) → IsElection e → MayHold e ballots
    → HasRoom (home_in e) (2 ^ e.bits) (cell_count e) (numbers_of ballots)
has_room e ballots election held = record {
  distinct = pairs_of_numbers (λ a b. a ≢ b) ballots held.listing.distinct;
  some = All-map (λ v. v ≢ 0) (λ b. b.number) ballots
      (All-weaker (IsValid e) (λ b. b.number ≢ 0)
      (λ b h. let one = h.some_number in λ z. omega arith) ballots held.listing.valid);
  homed = λ k d lt. home_of-lt e.bits e.salt _ election.few_bits;
  room = omega (arith, length-numbers_of ballots, held.within_limit);
}

pub cells_of-IsPermutation : (e : Election) (xs ys : List Ballot) → IsPermutation xs ys → cells_of e xs ≡ cells_of e ys
cells_of-IsPermutation e xs ys p =
    ap (laid_out (home_in e) (cell_count e))
    (sym (ascending-IsPermutation _ _ (IsPermutation-map (λ b. b.number) xs ys p)))

pub limit-IsPermutation : (e : Election) (xs ys : List Ballot) → IsPermutation xs ys → IsWithinLimit e xs
    → IsWithinLimit e ys
limit-IsPermutation e xs ys p few = let size = length_permutation xs ys p in omega arith

pub may_hold-IsPermutation : (e : Election) (xs ys : List Ballot) → IsPermutation xs ys → MayHold e xs → MayHold e ys
may_hold-IsPermutation e xs ys p held = record {
  listing = listing-IsPermutation e xs ys p held.listing;
  within_limit = limit-IsPermutation e xs ys p
      held.within_limit;
}

-- what a store may hold is stored in order, whichever way it is listed
pub stored_by_number : (e : Election) (ballots : List Ballot) → IsElection e → MayHold e ballots
    → IsStored (record { election = e; ballots = by_number ballots })
stored_by_number e ballots election held =
    let moved = may_hold-IsPermutation e _ _ (by_number-IsPermutation ballots) held in
    record {
      election = election;
      set = record { valid = moved.listing.valid; ascending = by_number-ascends ballots held.listing.distinct };
      within_limit = moved.within_limit;
    }

pub may_hold_without : (e : Election) (ballots : List Ballot) (numbers : List ℕ) → MayHold e ballots
    → MayHold e (ballots_without ballots numbers)
may_hold_without e ballots numbers held =
    let test = λ (b : Ballot). not (list_any (λ number. number == b.number) numbers) in
    record {
      listing = record {
        valid = All-filter test (IsValid e) ballots held.listing.valid;
        distinct = AllPairs-filter (λ a b. a.number ≢ b.number) test ballots held.listing.distinct;
      };
      within_limit = let few = held.within_limit in omega
          (arith, length-filter test ballots, count_by-le-length test ballots);
    }

-- so may what is left of a stored set
pub stored_without : (store : Contents) (numbers : List ℕ) → IsStored store
    → IsStored (record { election = store.election; ballots = ballots_without store.ballots numbers })
stored_without store numbers h =
    let test = λ (b : Ballot). not (list_any (λ number. number == b.number) numbers) in
    let ballots = store.ballots in
    record {
      election = h.election;
      set = record {
        valid = All-filter test (IsValid store.election) ballots h.set.valid;
        ascending = AllPairs-filter (λ a b. a.number < b.number) test ballots h.set.ascending;
      };
      within_limit = let few = h.within_limit in omega
          (arith, length-filter test ballots, count_by-le-length test ballots);
    }

-- the cells of what is stored
pub stored_layout : (store : Contents) → IsStored store
    → IsLayout (home_in store.election) (cell_count store.election) (numbers_of store.ballots)
    (cells_of store.election store.ballots)
stored_layout store h = layout_of_is _ _ _ _
    (has_room store.election store.ballots h.election (may_hold_set store.election store.ballots h.set h.within_limit))

-- each ballot that may be held has a number of its own
pub numbered : (e : Election) (ballots : List Ballot) → MayHold e ballots → AreNumbered ballots
numbered e ballots held = record {
  some = All-weaker (IsValid e) (λ b. b.number ≢ 0)
      (λ b h. let one = h.some_number in λ z. omega arith) ballots held.listing.valid;
  distinct = held.listing.distinct;
}

pub held_layout : (e : Election) (ballots : List Ballot) → IsElection e → MayHold e ballots
    → IsLayout (home_in e) (cell_count e) (numbers_of ballots) (cells_of e ballots)
held_layout e ballots election held = layout_of_is _ _ _ _ (has_room e ballots election held)
