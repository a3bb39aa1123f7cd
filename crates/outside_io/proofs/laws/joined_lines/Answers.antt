use Rattle.outside_io.proofs.EndedLines.{lines_of-append, ended_lines-append}
use Rattle.outside_io.proofs.laws.joined_lines.Goals as goal

pub returns-clause-all : goal.returns-clause-all
returns-clause-all c = lines_of-append

pub returns-clause-ended : goal.returns-clause-ended
returns-clause-ended c = ended_lines-append
