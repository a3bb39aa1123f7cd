-- Numbers at their places.
use Rattle.std.proofs.Common.{◌≡◌, ◌≢◌, ℕ, ◌<◌, true, false, List, [], ◌∷◌, ◌++◌, length, get_or, Some, ap, sym, ◌∙◌, inl, inr, arith}
use Rattle.store_spec.proofs.Common.{All-push, Ballot, Election, Equal, Greater, IsListing, IsValid, Less, all_pairs_push, cases_lt, get_or-map, get_or_from_slice_get, is_eq, length-map, nat_cmp, numbers_of, slice_get, slice_get_within}
use Rattle.std.specs.Cmp.{nat_cmp_is}
use Rattle.std.specs.Prelude.{Contains}
use Rattle.script_commands.specs.Index.{IsAbsent}

-- what stands at a place is in the list
pub stands : {X : Type 0} (xs : List X) (place : ℕ) (x : X) → slice_get xs place ≡ Some x → Contains xs x
stands xs place x there = (place, slice_get_within xs place x there, get_or_from_slice_get xs place x x there)

-- no ballot has a number that is absent
pub ballot_missing : (ballots : List Ballot) (number : ℕ) → IsAbsent (numbers_of ballots) number → (k : ℕ) (d : Ballot) → k < length ballots → (get_or ballots k d).number ≢ number
ballot_missing ballots number absent k d below same =
    let f : Ballot → ℕ = λ b. b.number in
    absent (k, omega (arith, below, length-map ballots f), get_or-map f ballots k d number below ∙ same)

pub same_number : (a b : ℕ) → a ≡ b → is_eq (nat_cmp a b) ≡ true
same_number a b same = ap is_eq (sym (nat_cmp_is a b Equal same))

pub other_number : (a b : ℕ) → a ≢ b → is_eq (nat_cmp a b) ≡ false
other_number a b other = elim (cases_lt a b) [
  | inl less ↦ ap is_eq (sym (nat_cmp_is a b Less less))
  | inr more ↦ ap is_eq (sym (nat_cmp_is a b Greater (omega arith)))
]

-- a listing with one ballot more
pub listing_grown : (e : Election) (ballots : List Ballot) (b : Ballot) → IsListing e ballots → IsValid e b → IsAbsent (numbers_of ballots) b.number → IsListing e (ballots ++ b ∷ [])
listing_grown e ballots b listing valid absent = record {
  valid = All-push (IsValid e) ballots b listing.valid valid;
  distinct = all_pairs_push (λ a b. a.number ≢ b.number) ballots b listing.distinct (ballot_missing ballots b.number absent);
}
