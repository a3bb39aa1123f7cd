-- A list of ballots of one election, as callers see it, and what the bytes of cells spell.
use Rattle.std.specs.Prelude.{ℕ, zero, suc, ◌-◌, List, [], ◌∷◌, ◌++◌, drop, take}
use Rattle.ballot_record.specs.Format.{ballot_at}
use Rattle.store_spec.specs.Ballot.{Ballot}
use Rattle.store_spec.specs.Election.{Election, cell_size}

-- the election, the ballots in their order, and for how many more memory is there
pub record ListedBallots : Type 0 where
  pub election : Election
  pub ballots : List Ballot
  pub room : ℕ

abbrev pub empty_list : Election → ℕ → ListedBallots
empty_list e room = record { election = e; ballots = []; room = room }

-- with one ballot more at the end
abbrev pub with_more : ListedBallots → Ballot → ListedBallots
with_more list b = record { election = list.election; ballots = list.ballots ++ b ∷ []; room = list.room - 1 }

-- the ballots of so many cells, one behind another
unfoldable pub ballots_at : Election → ℕ → List ℕ → List Ballot
ballots_at e zero bytes = []
ballots_at e (suc more) bytes =
    ballot_at e (take (cell_size e) bytes) ∷ ballots_at e more (drop (cell_size e) bytes)
