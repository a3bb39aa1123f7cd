use Rattle.outside_io.proofs.FirstLine.{lines_within-first, lines_within-none, lines_within-too_long}
use Rattle.outside_io.proofs.laws.first_line.Goals as goal

pub returns-clause-first : goal.returns-clause-first
returns-clause-first c = lines_within-first

pub returns-clause-empty : goal.returns-clause-empty
returns-clause-empty c = lines_within-none

pub returns-clause-too_long : goal.returns-clause-too_long
returns-clause-too_long c = lines_within-too_long
