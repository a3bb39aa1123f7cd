use Rattle.session_laws.proofs.Kept.{begun_kept, line_kept, script_kept}
use Rattle.session_laws.proofs.laws.states_are_kept.Goals as goal

pub returns-clause-begins : goal.returns-clause-begins
returns-clause-begins c = begun_kept

pub returns-clause-line : goal.returns-clause-line
returns-clause-line c = line_kept

pub returns-clause-script : goal.returns-clause-script
returns-clause-script c = script_kept
