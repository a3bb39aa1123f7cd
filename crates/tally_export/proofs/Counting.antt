-- What a ballot adds to the counts of a contest.
use Rattle.std.proofs.Common.{◌≡◌, ℕ, ◌-◌, ◌≤◌, Bool, true, false, cond, eqb, inl, inr, [], ◌∷◌, ap, subst, ◌∙◌, arith}
use Rattle.store_spec.proofs.Common.{Ballot, Contest, Election, IsContest, IsElection, Some, allowed_of, bit_at, choices_of, filter, ne_eqb, option_map_or, slice_get, sum_by, sum_by-cons}
use Rattle.std.proofs.lemmas.Option.{slice_get_cases}
use Rattle.ballot_record.proofs.Versions.{few_choices}

-- a sum over those that pass a test, where one ballot passes it and no other is there
pub sum_on : (f : Ballot → ℕ) (p : Ballot → Bool) (b : Ballot) → p b ≡ true → sum_by f (filter p (b ∷ [])) ≡ f b
sum_on f p b on =
    let sum : sum_by f (b ∷ []) ≡ f b = sum_by-cons f b [] ∙ omega arith in
    ap (λ t. sum_by f (cond t (b ∷ []) [])) on ∙ sum

-- the same where it fails it
pub sum_off : (f : Ballot → ℕ) (p : Ballot → Bool) (b : Ballot) → p b ≡ false → sum_by f (filter p (b ∷ [])) ≡ 0
sum_off f p b off = ap (λ t. sum_by f (cond t (b ∷ []) [])) off

-- one bit or none
pub bit_few : (b : Bool) (set c : ℕ) → cond b 0 (bit_at set c) ≤ 1
bit_few true set c = omega arith
bit_few false set c = omega arith

pub one_few : (b : Bool) → cond b 1 0 ≤ 1
one_few true = omega arith
one_few false = omega arith

-- what is said of a contest that stands there
contest_says : (says : Contest → ℕ) (e : Election) (k : ℕ) (contest : Contest) → 1 ≤ k
    → slice_get e.contests (k - 1) ≡ Some contest
    → cond (eqb k 0) 0 (option_map_or says (slice_get e.contests (k - 1)) 0) ≡ says contest
contest_says says e k contest first is =
    ap (λ b. cond b 0 (option_map_or says (slice_get e.contests (k - 1)) 0)) (ne_eqb k 0 (λ none. omega arith))
    ∙ ap (λ o. option_map_or says o 0) is

pub allowed_is : (e : Election) (k : ℕ) (contest : Contest) → 1 ≤ k → slice_get e.contests (k - 1) ≡ Some contest
    → allowed_of e k ≡ contest.allowed
allowed_is e k contest first is = contest_says (λ contest. contest.allowed) e k contest first is

pub choices_is : (e : Election) (k : ℕ) (contest : Contest) → 1 ≤ k → slice_get e.contests (k - 1) ≡ Some contest
    → choices_of e k ≡ contest.choices
choices_is e k contest first is = contest_says (λ contest. contest.choices) e k contest first is

-- a number that is none or few is few
none_or_few : (b : Bool) (n : ℕ) → n ≤ 64 → cond b 0 n ≤ 64
none_or_few true n few = omega arith
none_or_few false n few = few

-- no contest allows more marks than there may be choices
pub allowed_few : (e : Election) (k : ℕ) → IsElection e → allowed_of e k ≤ 64
allowed_few e k election =
    let allowed : Contest → ℕ = λ contest. contest.allowed in
    let found = slice_get e.contests (k - 1) in
    none_or_few (eqb k 0) (option_map_or allowed found 0)
    (elim (slice_get_cases e.contests (k - 1)).1 [
      | inl known ↦
          let is : option_map_or allowed found 0 ≡ known.0.allowed = ap (λ o. option_map_or allowed o 0) known.2 in
          let valid = subst (IsContest e) known.3 (election.each_contest (k - 1) known.0 known.1) in
          omega (arith, is, valid.few_marks, valid.few_choices, few_choices e)
      | inr past ↦
          let is : option_map_or allowed found 0 ≡ 0 = ap (λ o. option_map_or allowed o 0) past.1 in
          omega (arith, is)
    ])
