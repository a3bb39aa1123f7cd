use Rattle.script_lines.proofs.Saying.{all_taken, read_again, within_limit}
use Rattle.script_lines.proofs.laws.generated_lines_are_read.Goals as goal

pub returns-clause-lines : goal.returns-clause-lines
returns-clause-lines c = read_again

pub returns-clause-within_limit : goal.returns-clause-within_limit
returns-clause-within_limit c = within_limit

pub returns-clause-taken : goal.returns-clause-taken
returns-clause-taken c = all_taken
