use Rattle.std.proofs.Common.{Err, ap, ◌∙◌}
use Rattle.script_commands.proofs.build.ballots.Ballots.judge.Goals as goal

pub returns-in-Err-Invalid : goal.returns-in-Err-Invalid
returns-in-Err-Invalid c = c.read_line_into.ensures.invalid.0 (c.in-Err-Invalid.is ∙ ap Err c.in-Err-Invalid.field-0-is)
