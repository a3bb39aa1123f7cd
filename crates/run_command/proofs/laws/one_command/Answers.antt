use Rattle.run_command.proofs.Runs.{one_command}
use Rattle.run_command.proofs.laws.one_command.Goals as goal

pub returns : goal.returns
returns c = one_command
