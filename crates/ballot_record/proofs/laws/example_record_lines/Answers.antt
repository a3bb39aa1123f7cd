use Rattle.std.proofs.Common.{◌≡◌, [], ◌∷◌, refl, sym, ap, ◌∙◌}
use Rattle.store_spec.proofs.Common.{example, example_ballot}
use Rattle.store_spec.specs.Election.{in_version}
use Rattle.store_spec.specs.BallotLine.{choices_in, line_of_ballot, line_text}
use Rattle.ballot_record.proofs.LineLaws.{not_read}
use Rattle.ballot_record.proofs.LineWhole.{line_takes}
use Rattle.ballot_record.specs.LineReading.{digits_at, choices_at, group_at, groups_of, parsed_line}
use Rattle.ballot_record.proofs.laws.example_record_lines.Goals as goal

pub returns-clause-one_mark : goal.returns-clause-one_mark
unfolding parsed_line groups_of group_at choices_at digits_at in_version
returns-clause-one_mark c = line_takes example _ _ refl

pub returns-clause-three_marks : goal.returns-clause-three_marks
unfolding parsed_line groups_of group_at choices_at digits_at in_version
returns-clause-three_marks c = line_takes example _ _ refl

-- the parts of a ballot's line
line_of_9 : line_of_ballot example (example_ballot 9 1 0) ≡ record { number = 9; style = 1; groups = (1 ∷ []) ∷ [] ∷ [] }
unfolding choices_in in_version
line_of_9 = refl

line_of_1 : line_of_ballot example (example_ballot 1 2 5) ≡ record { number = 1; style = 1; groups = (2 ∷ []) ∷ (1 ∷ 3 ∷ []) ∷ [] }
unfolding choices_in in_version
line_of_1 = refl

pub returns-clause-of_9 : goal.returns-clause-of_9
returns-clause-of_9 c = ap line_text line_of_9 ∙ sym (returns-clause-one_mark c).spelled

pub returns-clause-of_1 : goal.returns-clause-of_1
returns-clause-of_1 c = ap line_text line_of_1 ∙ sym (returns-clause-three_marks c).spelled

pub returns-clause-leading_zero : goal.returns-clause-leading_zero
unfolding parsed_line groups_of group_at choices_at digits_at in_version
returns-clause-leading_zero c = not_read example _ refl

pub returns-clause-descending : goal.returns-clause-descending
unfolding parsed_line groups_of group_at choices_at digits_at in_version
returns-clause-descending c = not_read example _ refl

pub returns-clause-too_great : goal.returns-clause-too_great
unfolding parsed_line groups_of group_at choices_at digits_at in_version
returns-clause-too_great c = not_read example _ refl
