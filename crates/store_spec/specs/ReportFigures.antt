-- Worked figures of reports, under the example election.
use Rattle.std.specs.Prelude.{◌≡◌, List, [], ◌∷◌, codes}
use Rattle.store_spec.specs.Ballot.{Ballot}
use Rattle.store_spec.specs.Election.{example}
use Rattle.store_spec.specs.Figures.{example_ballot}
use Rattle.store_spec.specs.Report.{export_lines, lines_text, tally_lines}
use Rattle.store_spec.specs.Summary.{summary_of}

-- Ballot 1 marks choice 2 of contest 1 and choices 1 and 3 of contest 2, and ballot 2 all choices of contest 2, which
-- allows two.
abbrev pub example_set : List Ballot
example_set = example_ballot 1 2 5 ∷ example_ballot 2 0 7 ∷ []

pub record ExampleReports : Type 0 where
  pub tally : tally_lines example example_set
      ≡ codes "tally 2"
      ∷ codes "contest 1 under 1 over 0"
      ∷ codes "choice 1 1 0" ∷ codes "choice 1 2 1" ∷ codes "choice 1 3 0" ∷ codes "choice 1 4 0"
      ∷ codes "contest 2 under 0 over 1"
      ∷ codes "choice 2 1 1" ∷ codes "choice 2 2 0" ∷ codes "choice 2 3 1" ∷ []
  pub export : export_lines example example_set
      ≡ codes "export 2" ∷ codes "1 1 2/1,3" ∷ codes "2 1 -/1,2,3" ∷ []

-- of the replies to a script the lines on closed phases, checkpoints and tallies
pub record ExampleSummary : Type 0 where
  pub is : summary_of (lines_text
      (codes "casting 1" ∷ codes "1 1 accepted" ∷ codes "closed 1" ∷ codes "checkpoint 1"
      ∷ codes "line 5 wrong-phase closed" ∷ codes "tally 1" ∷ codes "contest 1 under 0 over 0"
      ∷ codes "choice 1 1 1" ∷ codes "export 1" ∷ codes "9 1 1/-" ∷ codes "dropped casting" ∷ []))
      ≡ lines_text (codes "closed 1" ∷ codes "checkpoint 1" ∷ codes "tally 1" ∷ codes "contest 1 under 0 over 0"
      ∷ codes "choice 1 1 1" ∷ [])
