-- The union of several sets of ballots, each that of a store, and the numbers on which they do not agree.
use Rattle.std.specs.Prelude.{◌≡◌, ◌≢◌, ◌⊎◌, ℕ, ◌<◌, ◌≤◌, List, AllPairs, Contains, Option, Some, None, MatchOption, min}
use Rattle.store_spec.specs.Ballot.{Ballot, numbers_of}
use Rattle.store_spec.specs.Election.{Election}

-- the ballot stands in one of the sets
abbrev pub StandsInOne : List (List Ballot) → Ballot → Type 0
StandsInOne sets b = (set : List Ballot) × Contains sets set × Contains set b

-- the number is in dispute: two different ballots with it stand in the sets
pub record IsDisputed (sets : List (List Ballot)) (number : ℕ) : Type 0 where
  pub one : Ballot
  pub other : Ballot
  pub one_stands : StandsInOne sets one
  pub other_stands : StandsInOne sets other
  pub one_number : one.number ≡ number
  pub other_number : other.number ≡ number
  pub differ : one ≢ other

-- no number is in dispute
abbrev pub Agree : List (List Ballot) → Type 0
Agree sets = (number : ℕ) → ¬ IsDisputed sets number

pub record IsLeastDisputed (sets : List (List Ballot)) (number : ℕ) : Type 0 where
  pub disputed : IsDisputed sets number
  pub least : (other : ℕ) → IsDisputed sets other → number ≤ other

-- the ballots that stand in one of the sets, and no others, in ascending order of their numbers
pub record IsUnion (sets : List (List Ballot)) (union : List Ballot) : Type 0 where
  pub each : (b : Ballot) → StandsInOne sets b → Contains union b
  pub only : (b : Ballot) → Contains union b → StandsInOne sets b
  pub ascending : AllPairs (λ a b. a.number < b.number) union

-- ---- what is kept of the sets that came so far

-- a ballot for each number, and the least number in dispute
pub record Joined : Type 0 where
  pub election : Election
  pub ballots : List Ballot
  pub dispute : Option ℕ

-- It is kept of these sets: ballots that stand in them, one for each of their numbers and each whose number is not in
-- dispute, and the least number in dispute.
pub record IsJoinedOf (sets : List (List Ballot)) (ballots : List Ballot) (dispute : Option ℕ) : Type 0 where
  pub ascending : AllPairs (λ a b. a.number < b.number) ballots
  pub only : (b : Ballot) → Contains ballots b → StandsInOne sets b
  pub numbers : (b : Ballot) → StandsInOne sets b → Contains (numbers_of ballots) b.number
  pub agreed : (b : Ballot) → StandsInOne sets b → Contains ballots b ⊎ IsDisputed sets b.number
  pub least : MatchOption dispute (Agree sets) (IsLeastDisputed sets)

-- the lesser of this number and one that is in dispute
abbrev pub least_with : Option ℕ → ℕ → ℕ
least_with None number = number
least_with (Some other) number = min other number

-- the same of what a union keeps
abbrev pub Joins : List (List Ballot) → Joined → Type 0
Joins sets joined = IsJoinedOf sets joined.ballots joined.dispute
