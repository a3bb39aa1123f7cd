use Rattle.image_builder.proofs.FourTests.{failing_from_wrong, image_of_right_cells, none_wrong, one_wrong, wrong_from_failing}
use Rattle.image_builder.proofs.laws.first_wrong_cell.Goals as goal

pub returns-clause-fails : goal.returns-clause-fails
returns-clause-fails c e bank cell election = (failing_from_wrong e bank cell election, wrong_from_failing e bank cell election)

pub returns-clause-one : goal.returns-clause-one
returns-clause-one c = one_wrong

pub returns-clause-none : goal.returns-clause-none
returns-clause-none c e bank election long header = (none_wrong e bank election, image_of_right_cells e bank election long header)
