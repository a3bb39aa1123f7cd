-- What lines build.
use Rattle.std.proofs.Common.{ℕ, List, arith}
use Rattle.store_spec.proofs.Common.{AllZip, Ballot, Builds, Election, IsListing, IsWithinLimit, Spells, length_permutation}
use Rattle.ballot_record.proofs.BallotSets.{in_order, in_order-IsPermutation, set_of_listing}

-- lines that spell a listing build its set
pub listing_builds : (e : Election) (lines : List (List ℕ)) (listing : List Ballot) → AllZip (Spells e) lines listing → IsListing e listing → IsWithinLimit e listing → Builds e lines (in_order listing)
listing_builds e lines listing each is few = record {
  listing = listing;
  each = each;
  same = in_order-IsPermutation listing;
  set = set_of_listing e listing is;
  within_limit = omega (arith, length_permutation listing (in_order listing) (in_order-IsPermutation listing), few);
}
