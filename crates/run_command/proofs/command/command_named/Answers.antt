use Rattle.run_command.proofs.Rows.{names_none}
use Rattle.run_command.proofs.command.command_named.Goals as goal

pub returns-in_default-clause-none : goal.returns-in_default-clause-none
returns-in_default-clause-none c = names_none c.args.word.now (assumption c.in_default)
