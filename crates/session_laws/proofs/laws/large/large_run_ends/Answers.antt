use Rattle.session_laws.proofs.GeneratedLines.{script_run, text_run}
use Rattle.session_laws.proofs.laws.large.large_run_ends.Goals as goal

pub returns-clause-script : goal.returns-clause-script
returns-clause-script c = script_run

pub returns-clause-text : goal.returns-clause-text
returns-clause-text c = text_run
