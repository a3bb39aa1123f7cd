-- Ballots that are all new.
use Rattle.std.specs.Prelude.{List, ◌++◌, map, flat_map}
use Rattle.store_spec.specs.Ballot.{Ballot, IsListing, IsWithinLimit}
use Rattle.store_spec.specs.BallotPhase.{CastLine}
use Rattle.store_spec.specs.Election.{Election}

-- the ballots of lists, list by list
abbrev pub ballots_cast : List (List CastLine) → List Ballot
ballots_cast lists = flat_map (map (λ l. l.ballot)) lists

-- each of these ballots has a number of its own, which the set lacks, and there is room for all of them
pub record AreNew (e : Election) (set ballots : List Ballot) : Type 0 where
  pub listing : IsListing e (set ++ ballots)
  pub room : IsWithinLimit e (set ++ ballots)
