use Rattle.outside_io.proofs.Readings.{reading_first, reading_all}
use Rattle.outside_io.proofs.laws.first_lines.Goals as goal

pub returns-clause-first : goal.returns-clause-first
returns-clause-first c = reading_first

pub returns-clause-all : goal.returns-clause-all
returns-clause-all c = reading_all
