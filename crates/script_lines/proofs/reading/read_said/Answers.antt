use Rattle.script_lines.proofs.Meanings.{no_command}
use Rattle.script_lines.proofs.reading.read_said.Goals as goal

pub returns-in-None-read_command : goal.returns-in-None-read_command
returns-in-None-read_command c = no_command c.args.election.now c.args.line.now c.in-None.ensures c.in-None-read_command.ensures
