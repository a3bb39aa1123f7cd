-- A cast ballot as the store keeps it, and what a store may hold.
use Rattle.std.specs.Prelude.{◌≡◌, ◌≢◌, ℕ, ◌-◌, ◌^◌, ◌<◌, ◌≤◌, ◌==◌, List, length, map, find, All, AllPairs, Option, slice_index}
use Rattle.store_spec.specs.Election.{Election, choices_on}

-- How many mark sets a ballot has room for, however many contests its election has.
abbrev pub MARK_SETS : ℕ
MARK_SETS = 24

-- A number, a style, and the mark sets: in that of contest k bit c - 1 stands for choice c.
pub record Ballot : Type 0 where
  pub number : ℕ
  pub style : ℕ
  pub marks : List ℕ

-- each mark set has only choices of that contest, none where the contest is not on the style
abbrev pub HasMarks : Election → ℕ → List ℕ → Type 0
HasMarks e style marks =
    (k : ℕ) → 1 ≤ k → k ≤ MARK_SETS → slice_index marks (k - 1) < 2 ^ choices_on e style k

-- The number is not 0, the style is one of the election's, and the mark sets fit. A ballot that marks more than a
-- contest allows is valid: an overvote.
pub record IsValid (e : Election) (b : Ballot) : Type 0 where
  pub some_number : 1 ≤ b.number
  pub short_number : b.number < 2 ^ 64
  pub some_style : 1 ≤ b.style
  pub known_style : b.style ≤ length e.styles
  pub every_set : length b.marks ≡ MARK_SETS
  pub marked : HasMarks e b.style b.marks

-- ---- ballots of an election

abbrev pub numbers_of : List Ballot → List ℕ
numbers_of ballots = map (λ b. b.number) ballots

-- the ballot with this number, if there is one
abbrev pub ballot_of : List Ballot → ℕ → Option Ballot
ballot_of ballots number = find (λ b. b.number == number) ballots

-- valid ballots with distinct numbers, in any order
pub record IsListing (e : Election) (ballots : List Ballot) : Type 0 where
  pub valid : All (IsValid e) ballots
  pub distinct : AllPairs (λ a b. a.number ≢ b.number) ballots

-- A set of ballots, as the list of its valid ballots in ascending order of their numbers: each set is one list.
pub record IsBallotSet (e : Election) (ballots : List Ballot) : Type 0 where
  pub valid : All (IsValid e) ballots
  pub ascending : AllPairs (λ a b. a.number < b.number) ballots

-- no more ballots than the election's store may hold
abbrev pub IsWithinLimit : Election → List Ballot → Type 0
IsWithinLimit e ballots = length ballots ≤ e.limit
