-- What a closed store holds.
use Rattle.std.specs.Prelude.{List, flat_map, map}
use Rattle.ballot_record.specs.BallotList.{ListedBallots}
use Rattle.ballot_record.specs.declared.record.Record.{Record}
use Rattle.ballot_record.specs.Record.{ballot}
use Rattle.store_spec.specs.Ballot.{Ballot, IsBallotSet, IsWithinLimit}
use Rattle.store_spec.specs.Election.{Election, IsElection}
pub use Rattle.store_spec.specs.Session.{ballots_without}

-- its election, and the set of its ballots
pub record Contents : Type 0 where
  pub election : Election
  pub ballots : List Ballot

-- a set that a store of the election may hold
pub record IsStored (store : Contents) : Type 0 where
  pub election : IsElection store.election
  pub set : IsBallotSet store.election store.ballots
  pub within_limit : IsWithinLimit store.election store.ballots

abbrev pub ballots_of : List Record → List Ballot
ballots_of records = map ballot records

-- the ballots of lists, one list behind another
abbrev pub all_listed : List ListedBallots → List Ballot
all_listed lists = flat_map (λ list. list.ballots) lists
