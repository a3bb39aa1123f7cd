-- Worked figures of large runs, under the example election.
use Rattle.std.specs.Prelude.{◌≡◌, List, [], ◌∷◌, flat_map, codes}
use Rattle.store_spec.specs.Ballot.{Ballot}
use Rattle.store_spec.specs.Election.{example}
use Rattle.store_spec.specs.Figures.{example_ballot}
use Rattle.store_spec.specs.Session.{line_of}
use Rattle.session_laws.specs.LargeRun.{IsLargeSet, large_summary}
use Rattle.session_laws.specs.SessionFigures.{full}

-- ballot 1, and with it the two ballots of seed 1
abbrev pub first_one : List Ballot
first_one = example_ballot 1 2 5 ∷ []

abbrev pub with_two : List Ballot
with_two = example_ballot 1 2 5 ∷ example_ballot 8330656331007053503 8 2 ∷ example_ballot 11702685578574552874 4 1 ∷ []

-- two ballots are cast beside one, and none is withdrawn; and a full store takes no other ballot
pub record LargeSets : Type 0 where
  pub gained : IsLargeSet example 1 2 first_one with_two
  pub full_before : IsLargeSet example 1 3 full full

-- what is written of either run
pub record LargeSummaries : Type 0 where
  pub gained : large_summary example 1 2 first_one with_two
      ≡ flat_map line_of (codes "closed 3" ∷ codes "closed 3" ∷ codes "checkpoint 3" ∷ codes "tally 3"
      ∷ codes "contest 1 under 0 over 0"
      ∷ codes "choice 1 1 0" ∷ codes "choice 1 2 1" ∷ codes "choice 1 3 1" ∷ codes "choice 1 4 1"
      ∷ codes "contest 2 under 2 over 0"
      ∷ codes "choice 2 1 2" ∷ codes "choice 2 2 1" ∷ codes "choice 2 3 1" ∷ [])
  pub full_before : large_summary example 1 3 full full
      ≡ flat_map line_of (codes "closed 8" ∷ codes "closed 8" ∷ codes "checkpoint 8" ∷ codes "tally 8"
      ∷ codes "contest 1 under 8 over 0"
      ∷ codes "choice 1 1 0" ∷ codes "choice 1 2 0" ∷ codes "choice 1 3 0" ∷ codes "choice 1 4 0"
      ∷ codes "contest 2 under 16 over 0"
      ∷ codes "choice 2 1 0" ∷ codes "choice 2 2 0" ∷ codes "choice 2 3 0" ∷ [])
