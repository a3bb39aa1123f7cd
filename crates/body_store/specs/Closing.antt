-- What a close changes.
use Rattle.std.specs.Prelude.{◌⊎◌, ◌≤◌, List, Contains, length}
use Rattle.store_spec.specs.Ballot.{Ballot, IsListing, IsWithinLimit}
use Rattle.store_spec.specs.Election.{Election, IsElection, most_ballots}

-- the ballots of before, these with the new ones, and the ballots of after
pub record Change : Type 0 where
  pub old : List Ballot
  pub all : List Ballot
  pub rest : List Ballot

-- what stands after stood before, or is new
pub record IsClose (e : Election) (more : List Ballot) (change : Change) : Type 0 where
  pub election : IsElection e
  pub all_listing : IsListing e change.all
  pub all_within_limit : IsWithinLimit e change.all
  pub rest_listing : IsListing e change.rest
  pub rest_within_limit : IsWithinLimit e change.rest
  pub old_among : (b : Ballot) → Contains change.old b → Contains change.all b
  pub more_among : (b : Ballot) → Contains more b → Contains change.all b
  pub rest_among : (b : Ballot) → Contains change.rest b → Contains change.all b
  pub few : length more ≤ most_ballots
  pub from : (b : Ballot) → Contains change.rest b → Contains change.old b ⊎ Contains more b
