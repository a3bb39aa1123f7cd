use Rattle.script_lines.proofs.GeneratedBallots.{all_apart, all_valid, withdrawn_among}
use Rattle.script_lines.proofs.laws.generated_numbers_are_distinct.Goals as goal

pub returns-clause-distinct : goal.returns-clause-distinct
returns-clause-distinct c = all_apart

pub returns-clause-some : goal.returns-clause-some
returns-clause-some c e seed count election small place other within = (all_valid e seed count election small place other within).some_number

pub returns-clause-withdrawn : goal.returns-clause-withdrawn
returns-clause-withdrawn c = withdrawn_among
