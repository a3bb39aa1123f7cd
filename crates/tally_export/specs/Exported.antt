-- The texts of which an export is made, and the places of its ballots.
use Rattle.std.specs.Prelude.{◌≡◌, ℕ, List, [], ◌∷◌, ◌++◌, codes, map}
use Rattle.body_store.specs.Contents.{Contents, IsStored}
use Rattle.body_store.specs.Places.{AreAt}
use Rattle.body_store.specs.declared.lookup.Place.{Place}
use Rattle.store_spec.specs.Ballot.{Ballot, numbers_of}
use Rattle.store_spec.specs.BallotLine.{record_line}
use Rattle.store_spec.specs.Election.{Election}
use Rattle.store_spec.specs.Image.{cells_of}
use Rattle.store_spec.specs.Input.{line_end}
use Rattle.store_spec.specs.Report.{count_line, lines_text}

-- its first line, with its end: how many ballots it lists
abbrev pub count_text : ℕ → List ℕ
count_text count = count_line (codes "export") count ++ line_end ∷ []

-- the lines of ballots, each with its end
abbrev pub records_text : Election → List Ballot → List ℕ
records_text e ballots = lines_text (map (record_line e) ballots)

-- the places of a store's ballots, in their order
pub record IsListed (store : Contents) (listed : List Place) : Type 0 where
  pub stored : IsStored store
  pub numbers : map (λ place. place.number) listed ≡ numbers_of store.ballots
  pub cells : AreAt (cells_of store.election store.ballots) listed
