-- Ballots that go together, from the base and from lists, however they are split.
use Rattle.std.specs.Prelude.{◌≡◌, ◌≢◌, ℕ, ◌≤◌, List, ◌++◌, length, map, flat_map, All, AllPairs, Contains}
use Rattle.store_spec.specs.Ballot.{Ballot, numbers_of}
use Rattle.store_spec.specs.BallotPhase.{CastLine}
use Rattle.store_spec.specs.Election.{Election}

-- the ballots of the base and of all lists
abbrev pub all_ballots : List Ballot → List (List CastLine) → List Ballot
all_ballots base lists = base ++ flat_map (map (λ l. l.ballot)) lists

-- No two of them that have one number differ, and they have no more distinct numbers than the election's store may hold
-- ballots.
pub record GoTogether (e : Election) (ballots : List Ballot) : Type 0 where
  pub alike : (a b : Ballot) → Contains ballots a → Contains ballots b → a.number ≡ b.number → a ≡ b
  pub few : (numbers : List ℕ) → AllPairs (λ a b. a ≢ b) numbers → All (Contains (numbers_of ballots)) numbers → length numbers ≤ e.limit
