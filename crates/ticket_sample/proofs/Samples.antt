-- The laws of samples.
use Rattle.std.proofs.Common.{◌≡◌, ℕ, zero, suc, ◌+◌, ◌<◌, ◌≤◌, inl, inr, List, [], ◌∷◌, Bool, true, length, sym, ap, subst, ◌∙◌, arith}
use Rattle.store_spec.proofs.Common.{All-filter, AllPairs-filter, Ballot, Contains, Election, IsBallotSet, IsValid, cond-false, cond-true, count_by-le-length, filter, length-filter, nat_lt, nat_tests, numbers_of}
use Rattle.std.specs.Prelude.{◌↔◌}
use Rattle.ballot_record.proofs.BallotSets.{same_members}
use Rattle.ticket_sample.proofs.Splitting.{bool_cases}
use Rattle.ticket_sample.specs.Sample.{count_before, is_drawn, sample_of}

-- ---- what is in a filter

pub passing_among : {X : Type 0} (test : X → Bool) (xs : List X) (x : X) → Contains (filter test xs) x → Contains xs x × (test x ≡ true)
passing_among test [] x c = absurd (omega (arith, c.1))
passing_among {X} test (y ∷ xs) x c = elim (bool_cases (test y)) [
  | inl passes ↦ first_or_rest passes (subst (λ (all : List X). Contains all x) (cond-true (test y) (y ∷ filter test xs) (filter test xs) passes) c) (passing_among test xs x)
  | inr fails ↦
      let rest = passing_among test xs x (subst (λ (all : List X). Contains all x) (cond-false (test y) (y ∷ filter test xs) (filter test xs) fails) c) in
      ((suc rest.0.0, omega (arith, rest.0.1), rest.0.2), rest.1)
] where
  first_or_rest : test y ≡ true → Contains (y ∷ filter test xs) x → (Contains (filter test xs) x → Contains xs x × (test x ≡ true)) → Contains (y ∷ xs) x × (test x ≡ true)
  first_or_rest passes (zero, lt, is) more = ((zero, omega arith, is), ap test (sym is) ∙ passes)
  first_or_rest passes (suc i, lt, is) more =
      let rest = more (i, omega (arith, lt), is) in
      ((suc rest.0.0, omega (arith, rest.0.1), rest.0.2), rest.1)

pub among_passing : {X : Type 0} (test : X → Bool) (xs : List X) (x : X) → Contains xs x → test x ≡ true → Contains (filter test xs) x
among_passing test [] x c passes = absurd (omega (arith, c.1))
among_passing {X} test (y ∷ xs) x (zero, lt, is) passes =
    subst (λ (all : List X). Contains all x) (sym (cond-true (test y) (y ∷ filter test xs) (filter test xs) (ap test is ∙ passes))) (zero, omega arith, is)
among_passing {X} test (y ∷ xs) x (suc i, lt, is) passes =
    let rest = among_passing test xs x (i, omega (arith, lt), is) passes in
    elim (bool_cases (test y)) [
      | inl first ↦ subst (λ (all : List X). Contains all x) (sym (cond-true (test y) (y ∷ filter test xs) (filter test xs) first)) (suc rest.0, omega (arith, rest.1), rest.2)
      | inr other ↦ subst (λ (all : List X). Contains all x) (sym (cond-false (test y) (y ∷ filter test xs) (filter test xs) other)) rest
    ]

-- ---- a sample is a set of ballots of the set

pub sample_set : (e : Election) (set : List Ballot) (dice : List ℕ) (k : ℕ) → IsBallotSet e set → IsBallotSet e (sample_of set dice k)
unfolding sample_of
sample_set e set dice k is = record {
  valid = All-filter (λ b. is_drawn dice k (numbers_of set) b.number) (IsValid e) set is.valid;
  ascending = AllPairs-filter (λ a b. a.number < b.number) (λ b. is_drawn dice k (numbers_of set) b.number) set is.ascending;
}

pub sample_among : (set : List Ballot) (dice : List ℕ) (k : ℕ) (b : Ballot) → Contains (sample_of set dice k) b → Contains set b
unfolding sample_of
sample_among set dice k b c = (passing_among (λ b. is_drawn dice k (numbers_of set) b.number) set b c).0

pub sample_fewer : (set : List Ballot) (dice : List ℕ) (k : ℕ) → length (sample_of set dice k) ≤ length set
unfolding sample_of
sample_fewer set dice k =
    omega (arith, length-filter (λ b. is_drawn dice k (numbers_of set) b.number) set, count_by-le-length (λ b. is_drawn dice k (numbers_of set) b.number) set)

below_more : (count k : ℕ) → nat_lt count k ≡ true → nat_lt count (k + 1) ≡ true
below_more count k less = grind (arith, nat_tests, less)

pub sample_more : (set : List Ballot) (dice : List ℕ) (k : ℕ) (b : Ballot) → Contains (sample_of set dice k) b → Contains (sample_of set dice (k + 1)) b
unfolding sample_of
sample_more set dice k b c =
    let found = passing_among (λ b. is_drawn dice k (numbers_of set) b.number) set b c in
    among_passing (λ b. is_drawn dice (k + 1) (numbers_of set) b.number) set b found.0 (below_more (count_before dice (numbers_of set) b.number) k found.1)

pub one_sample : (e : Election) (xs ys : List Ballot) (dice : List ℕ) (k : ℕ) → IsBallotSet e xs → IsBallotSet e ys → ((b : Ballot) → Contains xs b ↔ Contains ys b) → sample_of xs dice k ≡ sample_of ys dice k
one_sample e xs ys dice k x y same =
    ap (λ set. sample_of set dice k) (same_members xs ys x.ascending y.ascending (λ b. (same b).0) (λ b. (same b).1))
