use Rattle.script_lines.proofs.Saying.{all_say}
use Rattle.script_lines.proofs.laws.generated_lines_say.Goals as goal

pub returns : goal.returns
returns c = all_say
