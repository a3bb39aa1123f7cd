-- What a large run makes of the set that was held before it.
use Rattle.std.specs.Prelude.{◌≡◌, ℕ, ◌+◌, List, [], ◌∷◌, ◌++◌, length, min, codes, All, Contains}
use Rattle.script_lines.specs.Generated.{cast_ballots, withdrawn_numbers}
use Rattle.store_spec.specs.Ballot.{Ballot, IsBallotSet, numbers_of}
use Rattle.store_spec.specs.Election.{Election}
use Rattle.store_spec.specs.Report.{tally_text}
use Rattle.store_spec.specs.Session.{Effect, State, acknowledged_in, ballots_without, begun, counted, written}
use Rattle.store_spec.specs.Summary.{summary_of}

-- the ballots whose numbers a set lacks
abbrev pub new_to : List Ballot → List Ballot → List Ballot
new_to set ballots = ballots_without ballots (numbers_of set)

-- how many ballots are held once these are cast: as many as there are, or as many as the store may hold
abbrev pub count_with : Election → List Ballot → List Ballot → ℕ
count_with e set ballots = min (length set + length (new_to set ballots)) e.limit

-- A set gains ballots: each whose number it lacks, or some of these until it is full. It loses none.
pub record GainsNew (e : Election) (set ballots after : List Ballot) : Type 0 where
  pub is : IsBallotSet e after
  pub keeps : All (Contains after) set
  pub only : All (Contains (set ++ new_to set ballots)) after
  pub count : length after ≡ count_with e set ballots

-- The result of a large run: the set gained the ballots that were cast, and then lost the numbers that were withdrawn.
pub record IsLargeSet (e : Election) (seed count : ℕ) (before after : List Ballot) : Type 0 where
  pub cast : List Ballot
  pub gains : GainsNew e before (cast_ballots e seed count) cast
  pub rest : after ≡ ballots_without cast (withdrawn_numbers e seed count)

-- what is written of the replies: both closes, the checkpoint, and the tally of the result
abbrev pub large_summary : Election → ℕ → ℕ → List Ballot → List Ballot → List ℕ
large_summary e seed count before after =
    counted (codes "closed") (count_with e before (cast_ballots e seed count))
    ++ counted (codes "closed") (length after)
    ++ counted (codes "checkpoint") (length after)
    ++ tally_text e after

-- A large run that was played to its end: the result is held, and no other set was acknowledged.
pub record IsLargeRun (e : Election) (seed count : ℕ) (before : List Ballot) (effects : List Effect) (end : State)
    : Type 0 where
  pub after : List Ballot
  pub is : IsLargeSet e seed count before after
  pub ends : end ≡ begun after
  pub acknowledged : acknowledged_in effects ≡ after ∷ []
  pub summary : summary_of (written effects) ≡ large_summary e seed count before after
