-- What a store of an election in version 1 holds, a store of the election may hold.
use Rattle.std.proofs.Common.{◌≡◌, ℕ, List, Option, Some, None, Result, Ok, Err, drop, ap, sym, ◌∙◌, subst}
use Rattle.store_spec.proofs.Common.{All, All-contains, All-weaker, Ballot, Election, IfOk, IfSome, IsElection, IsListing, IsPermutation, IsPermutation-refl, IsValid, IsWithinLimit, as_version_one, ballot_of, cells_of, header_size, image_of, option_map}
use Rattle.ballot_record.proofs.BallotSets.{listing_from_set, same_in_order}
use Rattle.ballot_record.proofs.Lookups.{found_in}
use Rattle.ballot_record.specs.Record.{ballot}
use Rattle.ballot_record.specs.declared.record.Record.{Record}
use Rattle.body_store.proofs.ByNumber.{by_number-is}
use Rattle.body_store.proofs.Spelled.{spelled_by_number}
use Rattle.body_store.specs.ByNumber.{by_number}
use Rattle.body_store.specs.Contents.{Contents, IsStored}
use Rattle.body_store.specs.Held.{Shows, spelled_in}

valid_too : (e : Election) (b : Ballot) → IsValid (as_version_one e) b → IsValid e b
valid_too e b valid = record {
  some_number = valid.some_number;
  short_number = valid.short_number;
  some_style = valid.some_style;
  known_style = valid.known_style;
  every_set = valid.every_set;
  marked = valid.marked;
}

-- no ballot changes its cell
pub same_cells : (old : Contents) (e : Election) → old.election ≡ as_version_one e → (cells : List ℕ) → cells ≡ cells_of old.election old.ballots → cells ≡ cells_of e old.ballots
same_cells old e form cells are = are ∙ ap (λ (e : Election). cells_of e old.ballots) form

module _ (e : Election) (old : Contents) (form : old.election ≡ as_version_one e) (stored : IsStored old) where
  all_valid : All (IsValid e) old.ballots
  all_valid = All-weaker (IsValid (as_version_one e)) (IsValid e) (valid_too e) old.ballots (subst (λ (e : Election). All (IsValid e) old.ballots) form stored.set.valid)

  -- a ballot that stands in a cell is valid
  pub valid_in_cell : (held : Option Record) (number : ℕ) → option_map ballot held ≡ ballot_of old.ballots number → IfSome held (λ cast. IsValid e (ballot cast))
  valid_in_cell None number is = tt
  valid_in_cell (Some cast) number is = All-contains (IsValid e) old.ballots (ballot cast) all_valid (found_in old.ballots number (ballot cast) (sym is)).0

  listing_too : IsListing e old.ballots
  listing_too = listing_from_set e old.ballots (record { valid = all_valid; ascending = stored.set.ascending })

  within_too : IsWithinLimit e old.ballots
  within_too = subst (λ (e : Election). IsWithinLimit e old.ballots) form stored.within_limit

  module _ (election : IsElection e) (image cells : List ℕ) (is : image ≡ image_of e old.ballots) (laid : cells ≡ cells_of e old.ballots) where
    -- an image and its cells spell them
    pub spelled_same : by_number (spelled_in e cells (drop header_size image)) ≡ old.ballots
    spelled_same =
        spelled_by_number e old.ballots image cells election (record { listing = listing_too; within_limit = within_too }) is laid
        ∙ by_number-is old.ballots old.ballots listing_too.distinct stored.set.ascending (IsPermutation-refl old.ballots)

    pub shown_too : Shows e (by_number (spelled_in e cells (drop header_size image))) image cells
    shown_too = subst (λ (list : List Ballot). Shows e list image cells) (sym spelled_same)
        (record { election = election; listing = listing_too; within_limit = within_too; image = is; cells = laid })

  -- a store that is made of them holds them
  pub same_stored : {E : Type 0} (r : Result Contents E) (list : List Ballot) → list ≡ old.ballots → IfOk r (λ store. IsPermutation list store.ballots) → IfOk r IsStored
      → IfOk r (λ store. store.ballots ≡ old.ballots)
  same_stored (Ok store) list same permuted made =
      sym (same_in_order old.ballots store.ballots stored.set.ascending made.set.ascending (subst (λ xs. IsPermutation xs store.ballots) same permuted))
  same_stored (Err e) list same permuted made = tt
