use Rattle.outside_io.proofs.Readings.{same_lines, same_ending}
use Rattle.outside_io.proofs.laws.one_reading.Goals as goal

pub returns-clause-lines : goal.returns-clause-lines
returns-clause-lines c = same_lines

pub returns-clause-ending : goal.returns-clause-ending
returns-clause-ending c = same_ending
