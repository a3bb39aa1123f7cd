-- Ballots with no marks, under the example election.
use Rattle.std.proofs.Common.{◌≡◌, ◌≢◌, ◌^◌, ◌-◌, ℕ, ◌<◌, ◌≤◌, List, [], ◌∷◌, ap, map, replicate, slice_index, refl, sym, subst, arith}
use Rattle.store_spec.proofs.Common.{All, All-map, AllPairs, Ballot, Election, IsBallotSet, IsListing, IsPermutation, IsValid, choices_on, example, get_or-replicate, numbers_of, pow_pos}
use Rattle.ballot_record.proofs.BallotNumbers.{pairs_of_ballots}
use Rattle.ballot_record.proofs.BallotSets.{same_in_order}

abbrev pub blank : ℕ → Ballot
blank number = record { number = number; style = 1; marks = replicate 24 0 }

blank_valid : (number : ℕ) → 1 ≤ number → number < 2 ^ 64 → IsValid example (blank number)
blank_valid number some short = record {
  some_number = some;
  short_number = short;
  some_style = omega arith;
  known_style = omega arith;
  every_set = refl;
  marked = λ k first last.
      let none : slice_index (replicate 24 0) (k - 1) ≡ 0 = get_or-replicate 24 (k - 1) 0 0 (omega arith) in
      subst (λ (n : ℕ). n < 2 ^ choices_on example 1 k) (sym none) (pow_pos (choices_on example 1 k));
}

numbers_of-blank : (ns : List ℕ) → numbers_of (map blank ns) ≡ ns
numbers_of-blank [] = refl
numbers_of-blank (n ∷ ns) = ap (λ rest. n ∷ rest) (numbers_of-blank ns)

pub blank_listing : (ns : List ℕ) → All (λ n. n ≢ 0) ns → All (λ n. n < 2 ^ 64) ns → AllPairs (λ a b. a ≢ b) ns → IsListing example (map blank ns)
blank_listing ns some short apart = record {
  valid = All-map (IsValid example) blank ns (λ k d lt. let one = some k d lt in blank_valid _ (omega arith) (short k d lt));
  distinct = pairs_of_ballots (λ a b. a ≢ b) (map blank ns) (subst (λ (l : List ℕ). AllPairs (λ a b. a ≢ b) l) (sym (numbers_of-blank ns)) apart);
}

blanks_rise : (ns : List ℕ) → AllPairs (λ a b. a < b) ns → AllPairs (λ a b. a.number < b.number) (map blank ns)
blanks_rise ns rise =
    pairs_of_ballots (λ a b. a < b) (map blank ns) (subst (λ (l : List ℕ). AllPairs (λ a b. a < b) l) (sym (numbers_of-blank ns)) rise)

-- a store that holds these ballots holds them in the order of their numbers
pub blanks_stored : (e : Election) (ns : List ℕ) (held : List Ballot) → AllPairs (λ a b. a < b) ns → IsBallotSet e held → IsPermutation (map blank ns) held → held ≡ map blank ns
blanks_stored e ns held rise set p = sym (same_in_order (map blank ns) held (blanks_rise ns rise) set.ascending p)
