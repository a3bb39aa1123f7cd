-- An image and its cells, and the ballots that stand in some cells: by their numbers, and as the bytes spell them.
use Rattle.std.specs.Prelude.{◌≡◌, ◌==◌, ℕ, if◌then◌else◌, List, [], ◌∷◌, ◌++◌, drop, take, Option, Some, None}
use Rattle.ballot_record.specs.Format.{ballot_at}
use Rattle.store_spec.specs.Ballot.{Ballot, IsListing, IsWithinLimit, ballot_of}
use Rattle.store_spec.specs.Election.{Election, IsElection, cell_size}
use Rattle.store_spec.specs.Image.{cells_of, image_of}

-- the bytes of a bank and the numbers of its cells are those of ballots that a store of the election may hold
pub record Shows (e : Election) (ballots : List Ballot) (bytes numbers : List ℕ) : Type 0 where
  pub election : IsElection e
  pub listing : IsListing e ballots
  pub within_limit : IsWithinLimit e ballots
  pub image : bytes ≡ image_of e ballots
  pub cells : numbers ≡ cells_of e ballots

abbrev pub as_list : Option Ballot → List Ballot
as_list (Some b) = b ∷ []
as_list None = []

-- those of some ballots whose numbers stand in these cells
abbrev pub held_in : List Ballot → List ℕ → List Ballot
held_in ballots [] = []
held_in ballots (number ∷ numbers) = as_list (ballot_of ballots number) ++ held_in ballots numbers

-- those that the bytes of cells with these numbers spell
abbrev pub spelled_in : Election → List ℕ → List ℕ → List Ballot
spelled_in e [] bytes = []
spelled_in e (number ∷ numbers) bytes =
    (if number == 0 then [] else ballot_at e (take (cell_size e) bytes) ∷ [])
    ++ spelled_in e numbers (drop (cell_size e) bytes)
